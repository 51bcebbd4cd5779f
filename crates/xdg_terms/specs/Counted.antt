-- The numbers of a cardinality that were found so far.
use Rattle.std.specs.Prelude.{ℕ, Bool, false, List, Option, Some, None}
use Rattle.xdg_domain.specs.Cards.{IsCards}
use Rattle.xdg_facts.specs.Rises.{has}

abbrev pub told : Option (List ℕ) → ℕ → Bool
told None n = false
told (Some ns) n = has ns n

abbrev pub AreCards : Option (List ℕ) → Type 0
AreCards None = Unit {0}
AreCards (Some ns) = IsCards ns

-- What a search that stops has passed, and what it leaves.
use Rattle.std.specs.Prelude.{◌≡◌, ℕ, List}
use Rattle.xdg_facts.specs.Order.{AtMost}
use Rattle.xdg_facts.specs.Passed.{Charges}

-- n counted prefixes come after `from` and up to some prefix, none of them whole, and of that prefix it is told what is left
pub record Halts (shape : List ℕ) (P : List ℕ → Type 0) (from : List ℕ) (n : ℕ) (Leaves : List ℕ → Type 0) : Type 0 where
  pub to : List ℕ
  pub forward : AtMost from to
  pub charges : Charges shape P from to n
  pub rest : Leaves to

-- The same, and the search keeps that prefix: where `from` is the one that it kept before, the other is the one that it keeps now.
abbrev pub HaltsAt : List ℕ → (List ℕ → Type 0) → List ℕ → ℕ → (List ℕ → Type 0) → List ℕ → List ℕ → Type 0
HaltsAt shape P from n Leaves kept now = (halts : Halts shape P from n Leaves) × (from ≡ kept → halts.to ≡ now)

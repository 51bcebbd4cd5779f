-- What a run over a problem has answered, from its start on, by its ending.
use Rattle.std.specs.Prelude.{◌≡◌, ℕ, ◌≤◌, List, length, filter, Option}
use Rattle.xdg_facts.specs.Order.{AtMost}
use Rattle.xdg_facts.specs.Listing.{IsListing, SoFar}
use Rattle.xdg_facts.specs.Whole.{is_whole}
use Rattle.xdg_facts.specs.Closed.{NoneAfter, SomeAfter}
use Rattle.xdg_facts.specs.Endings.{IsBelow, IsAt}
use Rattle.xdg_facts.specs.declared.Ending.{Ending}
use Rattle.xdg_facts.specs.declared.Ending.TheVariants as endings

-- n counted prefixes come after the start and not after `to`, and the answers are the whole ones among them
pub record Drawn (shape : List ℕ) (P : List ℕ → Type 0) (start to : List ℕ) (n : ℕ) (answers : List (List ℕ)) : Type 0 where
  pub passed : List (List ℕ)
  pub forward : AtMost start to
  pub listing : IsListing shape (SoFar P to) start passed
  pub count : length passed ≡ n
  pub drawn : answers ≡ filter (is_whole shape) passed

-- The answers are those up to some prefix. Complete: nothing counted comes after it, and the budget was enough. First: as
-- many as wanted, within the budget. Spent: the budget is used up, and something counted comes after it.
abbrev pub Answered : Ending → List ℕ → (List ℕ → Type 0) → List ℕ → ℕ → Option ℕ → List (List ℕ) → Type 0
Answered endings.Complete shape P start b wanted answers =
    (to : List ℕ) × (n : ℕ) × Drawn shape P start to n answers × NoneAfter shape P to × (n ≤ b) × IsBelow (length answers) wanted
Answered endings.First shape P start b wanted answers = (to : List ℕ) × (n : ℕ) × Drawn shape P start to n answers × (n ≤ b) × IsAt (length answers) wanted
Answered endings.Spent shape P start b wanted answers =
    (to : List ℕ) × Drawn shape P start to b answers × SomeAfter shape P to × IsBelow (length answers) wanted

-- Rows of nodes at which a box makes a formula true, or false, one part after another.
use Rattle.std.proofs.Common.{◌≡◌, ◌↔◌, ℕ, ◌+◌, ◌<◌, ◌≤◌, Bool, true, List, length, map, take, get_or}
use Rattle.std.proofs.lemmas.List.{take_all}
use Rattle.xdg_problem.specs.declared.formula.Formula.{Formula}
use Rattle.xdg_problem.specs.declared.parts.Parts.{Parts}
use Rattle.xdg_problem.specs.Claims.{claims_of, claim}
use Rattle.xdg_problem.specs.Places.{nodes}
use Rattle.xdg_problem.specs.Truths.{bound}
use Rattle.xdg_rules.specs.Worths.{Makes}
use Rattle.xdg_formula_value.specs.Rows.{AreFirst, IsRowOn, Joined, open_in}
use Rattle.xdg_formula_value.specs.Several.{MakesSeveral}
use Rattle.xdg_formula_value.proofs.Fronts.{item_of, several_more, several_none}
use Rattle.xdg_formula_value.proofs.Rowed.{open_first, row_constant, row_done, row_more}
use Rattle.xdg_facts.specs.Rises.{has}

module _ (parts : Parts) (box : List (List Bool)) (truth : Bool) (b : ℕ → ℕ) (name : ℕ) (care : List ℕ) where
  -- the nodes for which the name stands so that the box makes the formula so
  abbrev pub Wanted : Formula → ℕ → Type 0
  Wanted f v = Makes parts box (claim f) truth (bound b name v)

  -- the nodes for which it stands so that the box makes each of some formulas so, or one or more of them
  abbrev pub SeveralSo : Bool → List Formula → ℕ → Type 0
  SeveralSo each fs v = MakesSeveral each parts box (claims_of (map claim fs)) truth (bound b name v)

  module _ (each : Bool) (fs : List Formula) where
    pub several_start : (set : List ℕ) → nodes parts ≤ 128 → AreFirst (nodes parts) care → ((v : ℕ) → v < 128 → has set v ≡ each) → IsRowOn care (SeveralSo each (take 0 fs)) set
    several_start set few first same = row_constant (nodes parts) care each (SeveralSo each (take 0 fs)) set few first same (λ v. several_none parts box (bound b name v) truth each)

    module _ (i : ℕ) (f : Formula) (old still : List ℕ) (l : i < length fs) (is : f ≡ get_or fs i f) (so_far : IsRowOn care (SeveralSo each (take i fs)) old) (open_is : (v : ℕ) → has still v ≡ open_in each care old v) where
      pub several_turn : (part new : List ℕ) → IsRowOn still (Wanted f) part → ((v : ℕ) → (has new v ≡ true) ↔ Joined each (has old v ≡ true) (has part v ≡ true)) → IsRowOn care (SeveralSo each (take (i + 1) fs)) new
      several_turn part new here joined = row_more each care still (SeveralSo each (take i fs)) (Wanted f) (SeveralSo each (take (i + 1) fs)) old part new so_far open_is here joined (λ v. several_more parts box (bound b name v) truth each fs i f l is)

      pub several_skip : length still ≡ 0 → IsRowOn care (SeveralSo each (take (i + 1) fs)) old
      several_skip none = row_done each care still (SeveralSo each (take i fs)) (Wanted f) (SeveralSo each (take (i + 1) fs)) old so_far open_is none (λ v. several_more parts box (bound b name v) truth each fs i f l is)

-- what a loop over parts asks for
pub ruleset several_steps = (take_all, item_of, open_first, several_start, several_skip)

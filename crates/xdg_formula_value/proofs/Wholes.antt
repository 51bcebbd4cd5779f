-- What a box makes of a formula under one binding.
use Rattle.std.proofs.Common.{◌≡◌, ◌↔◌, ℕ, ◌+◌, ◌<◌, IsTrue, inl, inr, Bool, true, false, List, length, map, take, get_or, refl, sym, ◌∙◌}
use Rattle.std.specs.Prelude.{not}
use Rattle.std.proofs.lemmas.Bool.{false≢true}
use Rattle.std.proofs.lemmas.List.{take_all}
use Rattle.xdg_problem.specs.declared.formula.Formula.{Formula}
use Rattle.xdg_problem.specs.declared.formula.Formula.TheVariants as y
use Rattle.xdg_problem.specs.declared.parts.Parts.{Parts}
use Rattle.xdg_problem.specs.Claims.{claims_of, claim}
use Rattle.xdg_problem.specs.Places.{nodes}
use Rattle.xdg_problem.specs.Truths.{bound}
use Rattle.xdg_rules.specs.Worths.{Makes}
use Rattle.xdg_graph.specs.Every.{IsEvery}
use Rattle.xdg_formula_value.specs.Rows.{IsRowOn, Joined, Over}
use Rattle.xdg_formula_value.specs.Several.{MakesSeveral}
use Rattle.xdg_formula_value.proofs.Formed.{every_makes, any_makes}
use Rattle.xdg_formula_value.proofs.Fronts.{item_of, several_more, several_none}
use Rattle.xdg_formula_value.proofs.Rowed.{over_told}
use Rattle.xdg_facts.proofs.Facts.{both_steps}
use Rattle.xdg_facts.specs.Rises.{has}

-- where what is known so far decides of two together
decided : (each so_far : Bool) (P Q : Type 0) → (so_far ≡ each → ⊥) → (so_far ≡ true) ↔ P → (so_far ≡ true) ↔ Joined each P Q
decided true so_far P Q other told = (λ on. absurd (other on), λ both. absurd (other (told.1 both.0)))
decided false true P Q other told = (λ on. inl (told.0 on), λ one. refl)
decided false false P Q other told = absurd (other refl)

-- and where the second one does
undecided : (each so_far here : Bool) (P Q : Type 0) → so_far ≡ each → (so_far ≡ true) ↔ P → IsTrue here ↔ Q → (here ≡ true) ↔ Joined each P Q
undecided true so_far here P Q still told now = (λ on. (told.0 still, now.0 on), λ both. now.1 both.1)
undecided false so_far here P Q still told now = (
  λ on. inr (now.0 on),
  λ one. elim one [ inl before ↦ absurd (false≢true (sym still ∙ told.1 before)) | inr second ↦ now.1 second ],
)

module _ (parts : Parts) (box : List (List Bool)) (truth : Bool) (b : ℕ → ℕ) where
  module _ (each : Bool) where
    -- the box makes each of some formulas so, or one or more of them
    abbrev pub SeveralMade : List Formula → Type 0
    SeveralMade fs = MakesSeveral each parts box (claims_of (map claim fs)) truth b

    pub several_start : (fs : List Formula) → (each ≡ true) ↔ SeveralMade (take 0 fs)
    several_start fs = several_none parts box b truth each

    module _ (fs : List Formula) (i : ℕ) (f : Formula) (so_far : Bool) (l : i < length fs) (is : f ≡ get_or fs i f) (told : (so_far ≡ true) ↔ SeveralMade (take i fs)) where
      pub several_skip : (so_far ≡ each → ⊥) → (so_far ≡ true) ↔ SeveralMade (take (i + 1) fs)
      several_skip other = both_steps (decided each so_far (SeveralMade (take i fs)) (Makes parts box (claim f) truth b) other told) (several_more parts box b truth each fs i f l is)

      pub several_turn : (here : Bool) → so_far ≡ each → IsTrue here ↔ Makes parts box (claim f) truth b → (here ≡ true) ↔ SeveralMade (take (i + 1) fs)
      several_turn here still now = both_steps (undecided each so_far here (SeveralMade (take i fs)) (Makes parts box (claim f) truth b) still told now) (several_more parts box b truth each fs i f l is)

  module _ (formula f g : Formula) (name : ℕ) (alike : g ≡ f) (all row : List ℕ) (holds : Bool) (size : ℕ) (every : IsEvery (nodes parts) all) (size_is : size ≡ nodes parts) (row_is : IsRowOn all (λ v. Makes parts box (claim g) truth (bound b name v)) row) where
    pub every_told : formula ≡ y.Every name f → IsTrue holds ↔ Over truth size (λ v. has row v ≡ true) → IsTrue holds ↔ Makes parts box (claim formula) truth b
    every_told is told = both_steps (over_told truth holds size (nodes parts) all (λ v. Makes parts box (claim g) truth (bound b name v)) row size_is every row_is told) (every_makes parts box truth b formula name f g is alike)

    pub any_told : formula ≡ y.Any name f → IsTrue holds ↔ Over (not truth) size (λ v. has row v ≡ true) → IsTrue holds ↔ Makes parts box (claim formula) truth b
    any_told is told = both_steps (over_told (not truth) holds size (nodes parts) all (λ v. Makes parts box (claim g) truth (bound b name v)) row size_is every row_is told) (any_makes parts box truth b formula name f g is alike)

-- what a loop over parts asks for
pub ruleset several_steps = (take_all, item_of, several_start)

-- What a box makes of a formula, form by form.
use Rattle.std.proofs.Common.{◌≡◌, ◌↔◌, ℕ, Bool, true, false, List, sym, ap, ◌∙◌, subst}
use Rattle.std.specs.Prelude.{not}
use Rattle.xdg_base.specs.declared.ids.DimId.{DimId}
use Rattle.xdg_base.specs.declared.ids.LabelId.{LabelId}
use Rattle.xdg_problem.specs.declared.parts.Parts.{Parts}
use Rattle.xdg_problem.specs.declared.formula.Formula.{Formula}
use Rattle.xdg_problem.specs.declared.formula.Formula.TheVariants as y
use Rattle.xdg_problem.specs.Claims.{Claim, negation, every, some, joined, claim}
use Rattle.xdg_problem.specs.Places.{nodes}
use Rattle.xdg_problem.specs.Truths.{bound, HasTruth}
use Rattle.xdg_rules.specs.Worths.{Makes}
use Rattle.xdg_problem.proofs.Claimed.{claim_not, claim_every, claim_any}
use Rattle.xdg_formula_value.specs.Pairs.{Relates, edges_for}
use Rattle.xdg_formula_value.specs.Rows.{Over}
use Rattle.xdg_formula_value.specs.declared.pair.Pair.TheVariants as pairs
use Rattle.xdg_formula_value.proofs.Fronts.{and_over, or_over, every_over, some_over}
use Rattle.xdg_facts.proofs.Facts.{both_steps}

module _ (parts : Parts) (box : List (List Bool)) (truth : Bool) (b : ℕ → ℕ) where
  -- what it makes of a pair of nodes
  pub edge_makes : (dim : DimId) (mother : ℕ) (label : LabelId) (daughter : ℕ) → Makes parts box (joined dim.0 mother label.0 daughter) truth b ↔ HasTruth truth (Relates (pairs.Edge dim label) (edges_for truth) parts box (b mother) (b daughter))
  edge_makes = by truth where
    by : (t : Bool) (dim : DimId) (mother : ℕ) (label : LabelId) (daughter : ℕ) → Makes parts box (joined dim.0 mother label.0 daughter) t b ↔ HasTruth t (Relates (pairs.Edge dim label) (edges_for t) parts box (b mother) (b daughter))
    by true dim mother label daughter = (λ h. h, λ h. h)
    by false dim mother label daughter = (λ h. h, λ h. h)

  module _ (formula : Formula) where
    -- the claim of a formula of a form
    pub form_makes : (form : Formula) (c : Claim) → formula ≡ form → claim form ≡ c → Makes parts box c truth b ↔ Makes parts box (claim formula) truth b
    form_makes form c is claims =
        let alike : claim formula ≡ c = ap claim is ∙ claims in
        (λ h. subst (λ d. Makes parts box d truth b) (sym alike) h, λ h. subst (λ d. Makes parts box d truth b) alike h)

    pub not_makes : (f g : Formula) → formula ≡ y.Not f → g ≡ f → Makes parts box (claim g) (not truth) b ↔ Makes parts box (claim formula) truth b
    not_makes f g is alike = form_makes (y.Not f) (negation (claim g)) is (claim_not f ∙ ap (λ h. negation (claim h)) (sym alike))

    pub every_makes : (name : ℕ) (f g : Formula) → formula ≡ y.Every name f → g ≡ f → Over truth (nodes parts) (λ v. Makes parts box (claim g) truth (bound b name v)) ↔ Makes parts box (claim formula) truth b
    every_makes name f g is alike = both_steps (every_over parts box b truth name (claim g)) (form_makes (y.Every name f) (every name (claim g)) is (claim_every name f ∙ ap (λ h. every name (claim h)) (sym alike)))

    pub any_makes : (name : ℕ) (f g : Formula) → formula ≡ y.Any name f → g ≡ f → Over (not truth) (nodes parts) (λ v. Makes parts box (claim g) truth (bound b name v)) ↔ Makes parts box (claim formula) truth b
    any_makes name f g is alike = both_steps (some_over parts box b truth name (claim g)) (form_makes (y.Any name f) (some name (claim g)) is (claim_any name f ∙ ap (λ h. some name (claim h)) (sym alike)))

-- what forms that a box decides by cases on the truth ask for
pub ruleset possible_forms = (and_over, or_over, edge_makes)

-- A rule that is false exactly where some nodes for some names let a box make a part of it true, or false.
use Rattle.std.proofs.Common.{◌≡◌, ◌↔◌, ℕ, ◌+◌, ◌<◌, ◌≤◌, IsTrue, inl, inr, Bool, true, false, List, [], length, get_or, refl, sym, ◌∙◌, ap, subst, arith}
use Rattle.std.specs.Prelude.{not, ◌==◌, ◌||◌, Some}
use Rattle.std.proofs.lemmas.Bool.{cases_eq, eq-eqb, false≢true}
use Rattle.std.proofs.lemmas.List.{get_or_default}
use Rattle.xdg_problem.specs.declared.formula.Formula.{Formula}
use Rattle.xdg_problem.specs.declared.formula.Formula.TheVariants as y
use Rattle.xdg_problem.specs.declared.parts.Parts.{Parts}
use Rattle.xdg_problem.specs.Claims.{Claim, Suits, claim, IsOf}
use Rattle.xdg_problem.specs.Boxes.{IsBox}
use Rattle.xdg_problem.specs.Places.{nodes}
use Rattle.xdg_problem.specs.Problems.{IsProblem}
use Rattle.xdg_problem.specs.Truths.{bound, unbound}
use Rattle.xdg_problem.specs.Vectors.{shape}
use Rattle.xdg_rules.specs.Worths.{Makes, RuleFalse}
use Rattle.xdg_problem.proofs.Bindings.{bound_nodes, bound_else}
use Rattle.xdg_rules.proofs.ClaimLaws.{name_laws}
use Rattle.xdg_store.specs.Naming.{Names}
use Rattle.xdg_store.specs.declared.decision.Decision.{Decision}
use Rattle.xdg_formula_value.specs.Lost.{AgreeBut, AsksIf, Concerns, Finds, LeadsTo, LosesOne, OnNames, Seen}
use Rattle.xdg_formula_value.specs.Rows.{Over}
use Rattle.xdg_formula_value.proofs.Finding.{NoneMade, finds_no}
use Rattle.xdg_formula_value.proofs.Formed.{not_makes, every_makes, any_makes}
use Rattle.xdg_formula_value.proofs.Stood.{bound_back}
use Rattle.xdg_formula_value.proofs.Unmet.{made_before}
use Rattle.xdg_facts.proofs.Truths.{or_here, either_true}
use Rattle.xdg_facts.specs.Rises.{has}

-- ---- what leads to what

pub leads_start : (parts : Parts) (rule : Formula) (names : List ℕ) → 0 < nodes parts → LeadsTo parts (claim rule) names (claim rule) false
leads_start parts rule names some = record {
  up = λ box b are makes. makes;
  down = λ box makes. (unbound, λ name. some, λ name out. refl, makes);
}

module _ (parts : Parts) (whole : Claim) (names : List ℕ) (truth : Bool) (formula : Formula) (leads : LeadsTo parts whole names (claim formula) truth) where
  pub leads_not : (f g : Formula) → formula ≡ y.Not f → g ≡ f → LeadsTo parts whole names (claim g) (not truth)
  leads_not f g is alike = record {
    up = λ box b are makes. leads.up box b are ((not_makes parts box truth b formula f g is alike).0 makes);
    down = λ box false_in. (let it = leads.down box false_in in (it.0, it.1, it.2, (not_makes parts box truth it.0 formula f g is alike).1 it.3));
  }

  -- where it is what some node for a name gives
  leads_some : (g : Formula) (name : ℕ) (more : List ℕ) → ((n : ℕ) → has more n ≡ ((n == name) || has names n))
      → ((box : List (List Bool)) (b : ℕ → ℕ) → Over false (nodes parts) (λ v. Makes parts box (claim g) truth (bound b name v)) ↔ Makes parts box (claim formula) truth b)
      → LeadsTo parts whole more (claim g) truth
  leads_some g name more members how = record {
    up = λ box b are makes. leads.up box b are ((how box b).0 (b name, are name, subst (Makes parts box (claim g) truth) (sym (bound_back b name)) makes));
    down = λ box false_in. (
        let it = leads.down box false_in in
        let some = (how box it.0).1 it.3 in (
          bound it.0 name some.0,
          bound_nodes parts it.0 name some.0 it.1 some.1,
          λ other out. bound_else it.0 name some.0 other (λ same. out (members other ∙ or_here (other == name) (has names other) (eq-eqb other name same)))
              ∙ it.2 other (λ there. out (members other ∙ either_true (other == name) (has names other) there)),
          some.2,
        )
        );
  }

  pub leads_every : (f g : Formula) (name : ℕ) (more : List ℕ) → formula ≡ y.Every name f → g ≡ f → truth ≡ false → ((n : ℕ) → has more n ≡ ((n == name) || has names n)) → LeadsTo parts whole more (claim g) truth
  leads_every f g name more is alike off members =
      leads_some g name more members (λ box b. subst (λ t. Over t (nodes parts) (λ v. Makes parts box (claim g) truth (bound b name v)) ↔ Makes parts box (claim formula) truth b) off (every_makes parts box truth b formula name f g is alike))

  pub leads_any : (f g : Formula) (name : ℕ) (more : List ℕ) → formula ≡ y.Any name f → g ≡ f → truth ≡ true → ((n : ℕ) → has more n ≡ ((n == name) || has names n)) → LeadsTo parts whole more (claim g) truth
  leads_any f g name more is alike on members =
      leads_some g name more members (λ box b. subst (λ t. Over t (nodes parts) (λ v. Makes parts box (claim g) truth (bound b name v)) ↔ Makes parts box (claim formula) truth b) (ap not on) (any_makes parts box truth b formula name f g is alike))

-- ---- whether the rule is false

-- a rule that is false under some binding is false
pub false_anyway : (parts : Parts) (rule : Formula) (box : List (List Bool)) (b : ℕ → ℕ) → Suits parts rule → Makes parts box (claim rule) false b → RuleFalse parts rule box
false_anyway parts rule box b suits makes = (name_laws parts [] (claim rule) suits.bound).worth box (Some false) b unbound (λ name none. absurd (let l = none.1 in omega (arith, l))) makes

pub found_false : (parts : Parts) (rule formula : Formula) (names : List ℕ) (truth found : Bool) (old new : List (List Bool)) → Suits parts rule → LeadsTo parts (claim rule) names (claim formula) truth
    → (RuleFalse parts rule old → ⊥) → Finds parts new (claim formula) truth (λ b. AgreeBut names unbound b × (Makes parts old (claim formula) truth b → ⊥)) found
    → IsTrue found ↔ RuleFalse parts rule new
found_false parts rule formula names truth found old new suits leads open_then finds = (
  λ t. (let it = finds.sound t in false_anyway parts rule new it.0 suits (leads.up new it.0 it.1 it.2)),
  λ false_now. (
      let it = leads.down new false_now in
      finds.complete it.0 it.1 (it.2, λ before. open_then (false_anyway parts rule old it.0 suits (leads.up old it.0 it.1 before))) it.3
      ),
)

-- ---- one decision after another

module _ (parts : Parts) (old new : List (List Bool)) (c : Claim) (truth : Bool) (names : List ℕ) (removed : List Decision) where
  -- the box makes it under no binding under which one of the first decisions concerns it
  abbrev pub NoneMet : ℕ → Type 0
  NoneMet k = (i : ℕ) (d : Decision) → i < k → NoneMade parts new c truth (λ b. AgreeBut names unbound b × OnNames names (Concerns parts old new (get_or removed i d) c) b)

  pub met_start : NoneMet 0
  met_start i d l = absurd (omega (arith, l))

  pub met_turn : (k : ℕ) (none_there : Decision) (found seen more : Bool) → k < length removed → (more ≡ true → seen ≡ true) → (seen ≡ true → NoneMet k) → found ≡ false
      → Finds parts new c truth (Seen more (λ b. AgreeBut names unbound b × OnNames names (Concerns parts old new (get_or removed k none_there) c) b)) found → more ≡ true → NoneMet (k + 1)
  met_turn k none_there found seen more within still so_far off finds on i d l b are wanted makes = elim (cases_eq i k) [
    | inl same ↦ (
        let here : get_or removed i d ≡ get_or removed k none_there = ap (λ j. get_or removed j d) same ∙ get_or_default removed k d none_there within in
        false≢true (sym off ∙ finds.complete b are (on, (wanted.0, subst (λ e. OnNames names (Concerns parts old new e c) b) here wanted.1)) makes)
        )
    | inr other ↦ so_far (still on) i d (omega (arith, l, other)) b are wanted makes
  ]

  pub met_end : (k : ℕ) → length removed ≤ k → NoneMet k → IsProblem parts → IsBox (shape parts) old → IsBox (shape parts) new → Names parts old new removed → IsOf parts c → AsksIf (LosesOne parts old new) c
      → Finds parts new c truth (λ b. AgreeBut names unbound b × (Makes parts old c truth b → ⊥)) false
  met_end k past so_far problem old_is new_is all suits asks =
      finds_no parts new c truth (λ b. AgreeBut names unbound b × (Makes parts old c truth b → ⊥)) (λ b are wanted makes.
      wanted.1 (made_before parts problem old new old_is new_is removed all c truth b are suits asks
      (λ d among meets. (let l = among.1 in so_far among.0 d (omega (arith, l, past)) b are (wanted.0, (b, λ name there. refl, subst (λ e. Concerns parts old new e c b) (sym among.2) meets)) makes)) makes))

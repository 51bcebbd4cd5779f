-- What the propagator of a rule does with a box.
use Rattle.std.proofs.Common.{◌≡◌, ◌↔◌, ℕ, IsTrue, Bool, true, false, List, Option, refl, sym, ◌∙◌, subst}
use Rattle.std.proofs.lemmas.Bool.{false≢true}
use Rattle.xdg_problem.specs.declared.formula.Formula.{Formula}
use Rattle.xdg_problem.specs.declared.parts.Group.{Group}
use Rattle.xdg_problem.specs.declared.parts.Parts.{Parts}
use Rattle.xdg_problem.specs.declared.parts.Principle.{Principle}
use Rattle.xdg_problem.specs.declared.parts.Principle.TheVariants as principles
use Rattle.xdg_problem.specs.Boxes.{Has}
use Rattle.xdg_problem.specs.Claims.{Suits, claim}
use Rattle.xdg_problem.specs.Problems.{IsGroup, IsProblem, IsSuited}
use Rattle.xdg_rules.specs.Rules.{Takes, IsClosedFor}
use Rattle.xdg_rules.specs.Worths.{RuleFalse}
use Rattle.xdg_store.specs.States.{State, Known}
use Rattle.xdg_propcore.specs.Passes.{Progress, Goes}
use Rattle.xdg_propcore.specs.Standing.{Held, HeldIf, box_at}
use Rattle.xdg_propcore.specs.Sweeps.{Sweeps}
use Rattle.xdg_propcore.proofs.Sweeping.{sweeps_start}
use Rattle.xdg_formula_value.specs.ClaimKinds.{HasKinds}
use Rattle.xdg_formula_value.specs.Lost.{HasEarlier}
use Rattle.xdg_formula_value.specs.Standing.{IsRule, HasKindsOf}
use Rattle.xdg_formula_value.proofs.Staying.{closed_for_rule, rule_not_false, rule_takes}

-- a rule has a formula
pub rule_found : (p : Principle) → IsRule p → (formula : Formula) × (p ≡ principles.Rule formula)
rule_found (principles.Rule formula) is = (formula, refl)
rule_found p is = absurd is

pub rule_suits : (parts : Parts) (group : Group) (formula : Formula) → IsGroup parts group → group.principle ≡ principles.Rule formula → Suits parts formula
rule_suits parts group formula is rule = subst (λ q. IsSuited q parts) rule is.suits

pub rule_kinds : (p : Principle) (formula : Formula) (wakes : ℕ) → p ≡ principles.Rule formula → HasKinds (claim formula) wakes → HasKindsOf p wakes
rule_kinds p formula wakes rule kinds = subst (λ q. HasKindsOf q wakes) (sym rule) kinds

module _ (group : Group) (s : State) (known : Known s) (formula : Formula) (rule : group.principle ≡ principles.Rule formula) (result : Bool) (told : IsTrue result ↔ RuleFalse s.parts formula s.now) where
  -- where the formula isn't false, nothing goes
  pub none_go : (p : Progress) → result ≡ false → Sweeps group (IsClosedFor s.parts group) p s p s
  none_go p off = sweeps_start group (IsClosedFor s.parts group) p s known (closed_for_rule s.parts group s.now formula rule (λ fails. false≢true (sym off ∙ told.1 fails)))

  -- where it is, all goes
  pub all_gone : (p q : Progress) → result ≡ true → IsGroup s.parts group → ((g : Group) → IsGroup s.parts g → ((d v : ℕ) → Has s.now d v → Takes s.parts g s.now d v) → Goes g p s q s) → q.dead ≡ true → Sweeps group (IsClosedFor s.parts group) p s q s
  all_gone p q on is goes dead = record { goes = goes group is (λ d v has. rule_takes s.parts group s.now formula rule (told.0 on) d v); known = known; done = λ quiet. absurd (false≢true (sym quiet.1 ∙ dead)) }

-- ---- where it was still before

-- its formula wasn't false
pub open_at : (s : State) (group : Group) (formula : Formula) (since : Option ℕ) → IsProblem s.parts → group.principle ≡ principles.Rule formula → HeldIf (λ parts box. IsClosedFor parts group box) s since
    → HeldIf (λ parts box. RuleFalse parts formula box → ⊥) s since
open_at s group formula since problem rule held mark some =
    let h = held mark some in
    record { within = h.within; is = h.is; inside = h.inside; calm = rule_not_false s.parts group (box_at s mark) formula problem h.is rule h.calm }

pub earlier_at : (s : State) (still : Parts → List (List Bool) → Type 0) (mark : ℕ) → Held still s mark → HasEarlier s mark
earlier_at s still mark h = record { within = h.within; is = h.is; inside = h.inside }

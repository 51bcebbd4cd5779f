-- While a box loses no value at which their tests look, the rules take no more than before.
use Rattle.std.proofs.Common.{◌≡◌, ℕ, inl, inr, Bool, true, List, refl, sym, ◌∙◌, ap, arith, subst}
use Rattle.xdg_problem.specs.declared.parts.Group.{Group}
use Rattle.xdg_problem.specs.declared.parts.Parts.{Parts}
use Rattle.xdg_problem.specs.declared.parts.Principle.{Principle}
use Rattle.xdg_problem.specs.declared.parts.Principle.TheVariants as principles
use Rattle.xdg_problem.specs.Arguments.{first_dim}
use Rattle.xdg_problem.specs.Boxes.{Has, entry_decision}
use Rattle.xdg_problem.specs.Principles.{looks_at_entries, looks_at_first}
use Rattle.xdg_problem.specs.Problems.{IsProblem}
use Rattle.xdg_rules.specs.Rules.{TakesBy, IsClosedFor}
use Rattle.xdg_propcore.specs.Families.{LosesUnseen, StaysClosed}
use Rattle.xdg_propcore.proofs.DecisionKinds.{kind_of_entry}
use Rattle.xdg_propcore.proofs.Unseen.{edge_stays}
use Rattle.xdg_pgraph.specs.Family.{IsOfFamily}
use Rattle.xdg_pgraph.proofs.Branching.{IsBranching, musts_rule, others_rule, rule_parts}
use Rattle.xdg_pgraph.proofs.Bundled.{bundles_closed, closed_bundles}
use Rattle.xdg_pgraph.proofs.BundlesStay.{bundle_stays}
use Rattle.xdg_pgraph.proofs.Closing.{closed_by_rules}
use Rattle.xdg_pgraph.proofs.EdgesStay.{may_same, must_same, musts_stay, others_stay}

module _ (parts : Parts) (problem : IsProblem parts) (group : Group) (old new : List (List Bool)) (unseen : LosesUnseen parts group old new) (closed : IsClosedFor parts group old) where
  branching_stays : (p : Principle) → group.principle ≡ p → IsBranching p → looks_at_first p ≡ true → (d v : ℕ) → Has new d v → TakesBy p parts group new d v → ⊥
  branching_stays p same is looks d v h rule =
      let stays = edge_stays parts group old new unseen (first_dim group) (inl (ap looks_at_first same ∙ looks, refl)) in
      closed d v (unseen.inside d v h) (inr (subst (λ q. TakesBy q parts group old d v) (sym same) (elim (rule_parts parts group new d v p is rule) [
        | inl musts ↦ musts_rule parts group old d v p (musts_stay parts group old new d v (must_same parts old new unseen.inside (first_dim group) stays) p musts)
        | inr others ↦ others_rule parts group old d v p is (others.0, others_stay parts group old new d v (may_same parts old new unseen.inside (first_dim group) stays) others.1)
      ])))

  rules_stay : (p : Principle) → group.principle ≡ p → IsOfFamily p → (d v : ℕ) → Has new d v → TakesBy p parts group new d v → ⊥
  rules_stay principles.Graph same family d v h rule = absurd rule
  rules_stay principles.Entries same family d v h rule = absurd rule
  rules_stay principles.Tree same family d v h rule = branching_stays principles.Tree same tt refl d v h rule
  rules_stay principles.Dag same family d v h rule = branching_stays principles.Dag same tt refl d v h rule
  rules_stay principles.Valency same family d v h rule = bundles_closed parts group new (λ way node label within known. bundle_stays parts group old new unseen.inside way node label
      (λ c. unseen.stays (entry_decision node) c (inl (ap looks_at_entries same, kind_of_entry parts node (let e = problem.candidates_each in omega (arith, e, within)))))
      (λ e place on near label_is. edge_stays parts group old new unseen (first_dim group) (inl (ap looks_at_first same, refl)) e (place, on))
      (closed_bundles parts group old same closed way node label within known)) d v h rule
  rules_stay p same family d v h rule = absurd family

pub stays_closed : StaysClosed IsOfFamily
stays_closed parts group old new problem group_is family unseen closed = closed_by_rules parts group new problem unseen.is family (rules_stay parts problem group old new unseen closed group.principle refl family)

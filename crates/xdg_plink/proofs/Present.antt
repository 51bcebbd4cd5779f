-- What a rule takes at a place leaves it to be seen that its edge may be present.
use Rattle.std.proofs.Common.{◌≡◌, ℕ, inl, inr, Bool, List, subst}
use Rattle.xdg_problem.specs.declared.analysis.Edge.{Edge}
use Rattle.xdg_problem.specs.declared.parts.Group.{Group}
use Rattle.xdg_problem.specs.declared.parts.Parts.{Parts}
use Rattle.xdg_problem.specs.declared.parts.Principle.{Principle}
use Rattle.xdg_problem.specs.Arguments.{first_dim}
use Rattle.xdg_problem.specs.Boxes.{Has, May, edge_decision}
use Rattle.xdg_rules.specs.Rules.{SaysPresent}
use Rattle.xdg_rules.proofs.Shrinking.{must_is}
use Rattle.xdg_plink.specs.Family.{IsLinking}
use Rattle.xdg_plink.specs.Steps.{TakesAt}
use Rattle.xdg_plink.proofs.Reaching.{is_reach, reach_or_apart}

module _ (parts : Parts) (group : Group) (box : List (List Bool)) (place : Edge) where
  -- a value that says that an edge is present
  says_present : (rule_place : Edge) → rule_place ≡ place → (d v : ℕ) → Has box d v → SaysPresent parts rule_place d v → May parts box place
  says_present rule_place same d v has says = subst (May parts box) same (subst (Has box (edge_decision parts rule_place)) says.1 (subst (λ k. Has box k v) says.0 has))

  pub takes_present : (p : Principle) → IsLinking p → (d v : ℕ) → Has box d v → TakesAt p parts group box place d v → May parts box place
  takes_present p l d v has t = elim (reach_or_apart p l) [
    | inl reaches ↦ (let (rule, same) = ((is_reach p reaches).at parts group box place d v).0 t in says_present rule.place same d v has rule.says)
    | inr apart ↦ (let (rule, same) = subst (λ q. TakesAt q parts group box place d v) apart t in elim rule.one [
      | inl here ↦ says_present rule.place same d v has here.0
      | inr there ↦ subst (May parts box) same (must_is parts box (first_dim group) rule.place there.1).present
    ])
  ]

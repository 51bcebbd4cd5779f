-- A projectivity that was still is so where each edge that might be may be still.
use Rattle.std.proofs.Common.{◌≡◌, ℕ, inl, inr, Bool, List, sym, ◌∙◌, subst}
use Rattle.std.specs.Prelude.{All}
use Rattle.xdg_problem.specs.declared.parts.Group.{Group}
use Rattle.xdg_problem.specs.declared.parts.Parts.{Parts}
use Rattle.xdg_problem.specs.declared.parts.Principle.TheVariants as principles
use Rattle.xdg_problem.specs.Arguments.{first_dim}
use Rattle.xdg_problem.specs.Boxes.{IsBox, LiesIn, edge_decision}
use Rattle.xdg_problem.specs.Problems.{IsProblem}
use Rattle.xdg_problem.specs.Vectors.{shape}
use Rattle.xdg_problem.proofs.DecidingPaths.{decided_above}
use Rattle.xdg_problem.proofs.PlaceOrder.{is_place}
use Rattle.xdg_rules.specs.Rules.{IsClosedFor, may_edges}
use Rattle.xdg_rules.proofs.Among.{Among, above_among}
use Rattle.xdg_rules.proofs.Shrinking.{may_exact}
use Rattle.xdg_store.specs.Decisions.{IsDecision}
use Rattle.xdg_store.specs.Naming.{Names}
use Rattle.xdg_store.specs.declared.decision.Decision.{Decision}
use Rattle.xdg_store.proofs.Kept.{on_edge}
use Rattle.xdg_propcore.proofs.Losing.{kept_or_lost}
use Rattle.xdg_porder.specs.Lasting.{MayOn}
use Rattle.xdg_porder.proofs.Closing.{across_closed}
use Rattle.xdg_porder.proofs.Crossing.{across_taken}

module _ (parts : Parts) (group : Group) (problem : IsProblem parts) (projective : group.principle ≡ principles.Projectivity) (old now : List (List Bool))
    (now_is : IsBox (shape parts) now) (lies : LiesIn now old) (dim : ℕ) (dim_is : dim ≡ first_dim group) (removed : List Decision) (names : Names parts old now removed)
    (stay : All (MayOn parts now dim) removed) where
  may_now : Among (may_edges parts old (first_dim group)) (may_edges parts now (first_dim group))
  may_now e among =
      let (on, before) = (may_exact parts old (first_dim group) e).0 among in
      let still = kept_or_lost old now (edge_decision parts e) 0 (λ lost.
      let (decision, c, number) = names.all (edge_decision parts e) 0 lost.0 lost.1 in
      let known = subst (IsDecision parts) c.2 (names.each c.0 decision c.1) in
      let told = subst (MayOn parts now dim) (c.2 ∙ on_edge parts decision e problem (is_place parts e on.0) known number) (stay c.0 decision c.1) in
      elim told [ inl other ↦ other (on.1 ∙ sym dim_is) | inr here ↦ lost.1 here ]) in
      (may_exact parts now (first_dim group) e).1 (on, still before)

  pub rested : IsClosedFor parts group old → IsClosedFor parts group now
  rested closed = across_closed parts group now now_is (λ e on here w between. elim (decided_above (may_edges parts old (first_dim group)) e.mother.0 w) [
    | inl above ↦ above_among (may_edges parts old (first_dim group)) (may_edges parts now (first_dim group)) may_now e.mother.0 w above
    | inr apart ↦ absurd (closed (edge_decision parts e) 0 (lies (edge_decision parts e) 0 here)
        (across_taken parts group old e w projective (is_place parts e on.0) on.1 between apart))
  ]) projective

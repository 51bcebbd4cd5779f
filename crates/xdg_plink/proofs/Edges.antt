-- Labels behind those of a dimension.
use Rattle.std.proofs.Common.{◌≡◌, ℕ, ◌≤◌, ◌↔◌, Bool, true, IsTrue, List, [], ap, arith, subst}
use Rattle.std.proofs.lemmas.Bool.{false≢true}
use Rattle.xdg_problem.specs.declared.analysis.Edge.{Edge}
use Rattle.xdg_problem.specs.declared.parts.Parts.{Parts}
use Rattle.xdg_problem.specs.Paths.{IsDaughterBy}
use Rattle.xdg_problem.proofs.PlaceOrder.{is_place}
use Rattle.xdg_rules.specs.Rules.{may_edges}
use Rattle.xdg_rules.proofs.Shrinking.{may_exact}
use Rattle.xdg_graph.specs.Edges.{edge_labels}
use Rattle.xdg_graph.proofs.Labelled.{label_below}
use Rattle.xdg_facts.specs.Rises.{has}

module _ (parts : Parts) (box : List (List Bool)) (dim node label : ℕ) where
  abbrev may : List Edge
  may = may_edges parts box dim

  no_label : (u x : ℕ) → edge_labels parts dim ≤ label → IsDaughterBy may u label x → ⊥
  no_label u x past (k, e, within, at, (m, b, d)) =
      let ((place, on), here) = (may_exact parts box dim e).0 (k, within, at) in
      let below = label_below parts e (is_place parts e place) in
      let same = ap (edge_labels parts) on in
      omega (arith, below, same, past, b)

  pub no_daughters : (set : List ℕ) → set ≡ [] → edge_labels parts dim ≤ label → (x : ℕ) → IsTrue (has set x) ↔ IsDaughterBy may node label x
  no_daughters set empty past x = (λ t. absurd (false≢true (subst (λ s. has s x ≡ true) empty t)), λ d. absurd (no_label node x past d))

  pub no_mothers : (set : List ℕ) → set ≡ [] → edge_labels parts dim ≤ label → (x : ℕ) → IsTrue (has set x) ↔ IsDaughterBy may x label node
  no_mothers set empty past x = (λ t. absurd (false≢true (subst (λ s. has s x ≡ true) empty t)), λ d. absurd (no_label x node past d))

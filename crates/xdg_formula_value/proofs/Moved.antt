-- Where one decision alone has lost values, each path that is new or gone passes the edge of a decision that has lost some.
use Rattle.std.proofs.Common.{ℕ, inl, inr, Bool, List, Contains}
use Rattle.xdg_problem.specs.declared.analysis.Edge.{Edge}
use Rattle.xdg_problem.specs.declared.parts.Parts.{Parts}
use Rattle.xdg_problem.specs.Boxes.{IsBox, Must}
use Rattle.xdg_problem.specs.Paths.{Above}
use Rattle.xdg_problem.specs.Problems.{IsProblem}
use Rattle.xdg_problem.specs.Vectors.{shape}
use Rattle.xdg_problem.proofs.PlaceOrder.{place_is}
use Rattle.xdg_problem.proofs.Walks.{above_edge}
use Rattle.xdg_rules.specs.Rules.{may_edges, must_edges}
use Rattle.xdg_rules.proofs.Sizes.{edge_some}
use Rattle.xdg_graph.specs.declared.which.Which.{Which}
use Rattle.xdg_graph.specs.declared.which.Which.TheVariants as whichs
use Rattle.xdg_graph.specs.Edges.{edges_of}
use Rattle.xdg_store.specs.Naming.{Names}
use Rattle.xdg_store.specs.declared.decision.Decision.{Decision}
use Rattle.xdg_store.specs.declared.decision.Decision.TheVariants as decisions
use Rattle.xdg_formula_value.specs.Lost.{IsBy, LosesOne, MovesPath, Passes}
use Rattle.xdg_formula_value.proofs.Losing.{HasLost, lost_edge, may_since, must_since, same_lost}
use Rattle.xdg_formula_value.proofs.Passing.{past_one, through}
use Rattle.xdg_problem.proofs.DecidingPaths.{decided_above}

module _ (parts : Parts) (old new : List (List Bool)) (old_is : IsBox (shape parts) old) (new_is : IsBox (shape parts) new) (dim : ℕ) where
  -- which edges go with a lost one

  by_must : (f : Edge) (u v : ℕ) → Must parts new f → Passes (must_edges parts new dim) f u v → (which : Which) → IsBy which parts new f → Passes (edges_of which parts new dim) f u v
  by_must f u v must passes whichs.Must by = passes
  by_must f u v must passes whichs.May by = absurd (by must)

  by_may : (f : Edge) (u v : ℕ) → (Must parts new f → ⊥) → Passes (may_edges parts new dim) f u v → (which : Which) → IsBy which parts new f → Passes (edges_of which parts new dim) f u v
  by_may f u v mustnt passes whichs.Must by = absurd (mustnt by)
  by_may f u v mustnt passes whichs.May by = passes

module _ (parts : Parts) (problem : IsProblem parts) (old new : List (List Bool)) (old_is : IsBox (shape parts) old) (new_is : IsBox (shape parts) new) (one : LosesOne parts old new) where
  passes_new : (dim : ℕ) (f : Edge) (u v : ℕ) → HasLost parts old new 1 f → (Above (must_edges parts old dim) u v → ⊥) → Above (must_edges parts new dim) u v → Passes (must_edges parts new dim) f u v
  passes_new dim f u v lost none path = elim (past_one (must_edges parts new dim) (must_edges parts old dim) (must_edges parts new dim) f
      (λ g is. elim (must_since parts old new old_is new_is dim g is) [
        | inl had ↦ inr (had, is)
        | inr other ↦ inl (same_lost parts problem old new old_is new_is one f g 1 1 lost other)
      ]) u v path) [
        | inl there ↦ absurd (none there)
        | inr passes ↦ passes
      ]

  passes_gone : (dim : ℕ) (f : Edge) (u v : ℕ) → HasLost parts old new 0 f → (Above (may_edges parts new dim) u v → ⊥) → Above (may_edges parts old dim) u v → Passes (may_edges parts new dim) f u v
  passes_gone dim f u v lost none path = elim (past_one (may_edges parts old dim) (may_edges parts new dim) (may_edges parts new dim) f
      (λ g is. elim (may_since parts old new old_is new_is dim g is) [
        | inl still ↦ inr (still, still)
        | inr other ↦ inl (same_lost parts problem old new old_is new_is one f g 0 0 lost other)
      ]) u v path) [
        | inl there ↦ absurd (none there)
        | inr passes ↦ passes
      ]

  module _ (removed : List Decision) (all : Names parts old new removed) (dim u v : ℕ) (unmet : (d : Decision) → Contains removed d → MovesPath parts old new d dim u v → ⊥) where
    pub path_before : Above (must_edges parts new dim) u v → Above (must_edges parts old dim) u v
    path_before path = elim (decided_above (must_edges parts old dim) u v) [
      | inl there ↦ there
      | inr none ↦ through (must_edges parts new dim) (must_edges parts old dim) (λ f is. elim (must_since parts old new old_is new_is dim f is) [
        | inl had ↦ above_edge (must_edges parts old dim) f had
        | inr lost ↦ absurd (unmet (decisions.Place f) (lost_edge parts problem old new old_is new_is removed all f 1 lost.0 lost.1 lost.2)
            (λ stay. none (stay.must u v path), by_must parts old new old_is new_is dim f u v lost.2 (passes_new dim f u v lost none path)))
      ]) u v path
    ]

    pub path_behind : (Above (may_edges parts new dim) u v → ⊥) → Above (may_edges parts old dim) u v → ⊥
    path_behind none path = none (through (may_edges parts old dim) (may_edges parts new dim) (λ f is. elim (may_since parts old new old_is new_is dim f is) [
      | inl still ↦ above_edge (may_edges parts new dim) f still
      | inr lost ↦ absurd (unmet (decisions.Place f) (lost_edge parts problem old new old_is new_is removed all f 0 lost.0 lost.1 lost.2)
          (λ stay. none (stay.may u v path), by_may parts old new old_is new_is dim f u v (mustnt_gone f lost) (passes_gone dim f u v lost none path)))
    ]) u v path) where
      mustnt_gone : (f : Edge) → HasLost parts old new 0 f → Must parts new f → ⊥
      mustnt_gone f lost must = elim (edge_some parts new new_is f (place_is parts f lost.0)) [ inl may ↦ lost.2 may | inr absent ↦ must absent ]

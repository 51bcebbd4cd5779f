-- An edge that may be, or must be, as what leads from a node to another by a label.
use Rattle.std.proofs.Common.{ℕ, ◌≤◌, ◌↔◌, Bool, List, refl, arith}
use Rattle.std.specs.Prelude.{Contains}
use Rattle.xdg_problem.specs.declared.parts.Parts.{Parts}
use Rattle.xdg_problem.specs.Boxes.{IsBox}
use Rattle.xdg_problem.specs.Paths.{IsDaughterBy}
use Rattle.xdg_problem.specs.Places.{edge}
use Rattle.xdg_problem.specs.Vectors.{shape}
use Rattle.xdg_problem.proofs.PlaceOrder.{is_place, place_is}
use Rattle.xdg_graph.specs.declared.which.Which.{Which}
use Rattle.xdg_graph.specs.Edges.{edges_of, edge_labels}
use Rattle.xdg_graph.proofs.Edges.{which_exact, stands_by}
use Rattle.xdg_graph.proofs.Labelled.{label_below}

module _ (which : Which) (parts : Parts) (box : List (List Bool)) (dim u l v : ℕ) (is : IsBox (shape parts) box) where
  pub by_is_edge : IsDaughterBy (edges_of which parts box dim) u l v ↔ Contains (edges_of which parts box dim) (edge dim u l v)
  by_is_edge = (
    λ by. (let stands = (stands_by which parts box dim u l v is).0 by in (which_exact which parts box dim (edge dim u l v) is).1 ((place_is parts (edge dim u l v) stands.0, refl), stands.1)),
    λ edge_is. (let stands = (which_exact which parts box dim (edge dim u l v) is).0 edge_is in (stands_by which parts box dim u l v is).1 (is_place parts (edge dim u l v) stands.0.0, stands.1)),
  )

  -- no edge has a label that the dimension's edges can't have
  pub no_edge : edge_labels parts dim ≤ l → Contains (edges_of which parts box dim) (edge dim u l v) → ⊥
  no_edge past edge_is =
      let stands = (which_exact which parts box dim (edge dim u l v) is).0 edge_is in
      let below = label_below parts (edge dim u l v) (is_place parts (edge dim u l v) stands.0.0) in
      omega (arith, below, past)

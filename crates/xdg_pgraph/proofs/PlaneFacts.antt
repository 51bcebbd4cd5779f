-- The numbers of a dimension and its places.
use Rattle.std.proofs.Common.{◌≡◌, ◌≢◌, ℕ, ◌<◌, ◌≤◌, ◌↔◌, Bool, true, false, List, length, get_or, refl, sym, ap, subst, arith}
use Rattle.std.specs.Prelude.{Contains, IsTrue, cond}
use Rattle.xdg_problem.specs.declared.analysis.Edge.{Edge}
use Rattle.xdg_problem.specs.declared.parts.Parts.{Parts}
use Rattle.xdg_problem.specs.Analyses.{IsPlace}
use Rattle.xdg_problem.specs.Arguments.{no_plan}
use Rattle.xdg_problem.specs.Boxes.{IsBox}
use Rattle.xdg_problem.specs.Places.{edge, nodes}
use Rattle.xdg_problem.specs.Problems.{IsProblem}
use Rattle.xdg_problem.specs.Vectors.{shape}
use Rattle.xdg_problem.proofs.PlaceOrder.{is_place, place_is}
use Rattle.xdg_problem.proofs.Edges.{edge_equal}
use Rattle.xdg_rules.specs.Rules.{IsPlaceOn}
use Rattle.xdg_rules.proofs.Shrinking.{may_is, must_is}
use Rattle.xdg_pgraph.specs.declared.plane.Plane.{Plane}
use Rattle.xdg_graph.specs.declared.which.Which.{Which}
use Rattle.xdg_graph.specs.declared.which.Which.TheVariants as whichs
use Rattle.xdg_pgraph.specs.Planes.{IsOnPlane, IsPlane}
use Rattle.xdg_graph.specs.Edges.{Stands, edge_labels, edges_of}
use Rattle.xdg_graph.proofs.Edges.{which_exact}
use Rattle.xdg_graph.proofs.Labelled.{has_edges, label_below, place_between}

labels_most : (graph : Bool) (n : ℕ) → cond graph n 0 ≤ n
labels_most true n = omega arith
labels_most false n = omega arith

-- its labels are those of the edges
pub plane_is : (parts : Parts) (plane : Plane) → IsProblem parts → plane.dim.0 < length parts.dims → plane.nodes ≡ nodes parts → plane.labels ≡ edge_labels parts plane.dim.0 → IsPlane parts plane
plane_is parts plane problem within count labels = record {
  dim_in = within;
  nodes_is = count;
  small = (let m = problem.most in omega (arith, m, count));
  labels_small = (
      let plan = get_or parts.dims plane.dim.0 no_plan in
      let few = labels_most plan.graph (length plan.labels) in
      let most = (problem.dims plane.dim.0 no_plan within).labels_most in
      omega (arith, labels, few, most));
  exact = λ e. (
    λ on.
        let place = is_place parts e on.0 in
        let below = label_below parts e place in
        let same = ap (edge_labels parts) on.1 in
        let m = place.mother in
        let d = place.daughter in
        record { dim = on.1; mother = omega (arith, m, count); label = omega (arith, below, same, labels); daughter = omega (arith, d, count); differ = place.differ },
    λ on.
        let m = on.mother in
        let d = on.daughter in
        let l = on.label in
        let place = place_between parts plane.dim.0 e.mother.0 e.label.0 e.daughter.0 (omega (arith, m, count)) (omega (arith, d, count)) on.differ (omega (arith, l, labels)) in
        (place_is parts e (subst (IsPlace parts) (sym (edge_equal e (edge plane.dim.0 e.mother.0 e.label.0 e.daughter.0) on.dim refl refl refl)) place), on.dim),
  );
  edges = λ node label n l. has_edges parts plane.dim.0 node label (omega (arith, n, count)) (omega (arith, l, labels));
}

-- an edge of a plane is a place
pub edge_place : (parts : Parts) (plane : Plane) (u l v : ℕ) → IsPlane parts plane → u < plane.nodes → v < plane.nodes → u ≢ v → l < plane.labels → IsPlace parts (edge plane.dim.0 u l v)
edge_place parts plane u l v is m d n k = is_place parts (edge plane.dim.0 u l v) ((is.exact (edge plane.dim.0 u l v)).1 (record { dim = refl; mother = m; label = k; daughter = d; differ = n })).0

-- edges that may be, or must be, are places
pub which_place : (which : Which) (parts : Parts) (box : List (List Bool)) (dim : ℕ) (e : Edge) → Contains (edges_of which parts box dim) e → IsPlaceOn parts dim e
which_place whichs.May parts box dim e c = (let m = may_is parts box dim e c in (m.place, m.dim_is))
which_place whichs.Must parts box dim e c = (let m = must_is parts box dim e c in (m.place, m.dim_is))

pub is_among : (which : Which) (parts : Parts) (box : List (List Bool)) (e : Edge) (result : Bool) → IsBox (shape parts) box → IsPlace parts e → IsTrue result ↔ Stands which parts box e →
    IsTrue result ↔ Contains (edges_of which parts box e.dim.0) e
is_among which parts box e result box_is is exact = (
  λ t. (which_exact which parts box e.dim.0 e box_is).1 ((place_is parts e is, refl), exact.0 t),
  λ c. exact.1 ((which_exact which parts box e.dim.0 e box_is).0 c).1,
)

pub which_on : (which : Which) (parts : Parts) (box : List (List Bool)) (plane : Plane) → IsPlane parts plane → (e : Edge) → Contains (edges_of which parts box plane.dim.0) e → IsOnPlane plane e
which_on which parts box plane is e c = (is.exact e).0 (which_place which parts box plane.dim.0 e c)

-- The other nodes of the edges of a bundle, and how many there are.
use Rattle.std.proofs.Common.{◌≡◌, ℕ, ◌<◌, ◌≤◌, ◌↔◌, ◌&&◌, Bool, true, IsTrue, List, length, map, refl, sym, ◌∙◌, ap, subst, arith}
use Rattle.std.specs.Prelude.{Contains, cond, filter, ◌==◌}
use Rattle.std.proofs.lemmas.Bool.{and_parts, and_from, eq-eqb, eqb-true}
use Rattle.std.proofs.lemmas.List.Elements.{All-weaker, All-contains_itself, recursion_from_All}
use Rattle.std.proofs.lemmas.List.{length-map}
use Rattle.std.proofs.lemmas.List.Sums.{length-filter}
use Rattle.xdg_nodeset.specs.Nodes.{IsNodes}
use Rattle.xdg_problem.specs.declared.analysis.Edge.{Edge}
use Rattle.xdg_problem.specs.declared.parts.Parts.{Parts}
use Rattle.xdg_problem.specs.Analyses.{Before}
use Rattle.xdg_problem.specs.Arguments.{label_count}
use Rattle.xdg_problem.specs.Paths.{IsDaughterBy, edges_out_of}
use Rattle.xdg_problem.specs.Places.{edge, places}
use Rattle.xdg_problem.proofs.Edges.{edge_equal}
use Rattle.xdg_facts.proofs.Filters.{filter_contained}
use Rattle.xdg_facts.proofs.Contained.{any_of, contains_filter, contains_map, map_contained}
use Rattle.xdg_facts.proofs.InOrder.{Ordered, ordered_filter}
use Rattle.xdg_facts.proofs.Each.{each_both, each_filter, each_passed}
use Rattle.xdg_problem.proofs.PlaceOrder.{places_ordered}
use Rattle.xdg_rules.proofs.Shrinking.{may_be, must_be}
use Rattle.xdg_store.specs.States.{State}
use Rattle.xdg_pgraph.specs.declared.bundle.Way.{Way}
use Rattle.xdg_pgraph.specs.declared.bundle.Way.TheVariants as ways
use Rattle.xdg_graph.specs.declared.which.Which.{Which}
use Rattle.xdg_graph.specs.declared.which.Which.TheVariants as whichs
use Rattle.xdg_pgraph.specs.declared.plane.Plane.{Plane}
use Rattle.xdg_pgraph.specs.Bundles.{edge_to, near_node, far_node, count_of}
use Rattle.xdg_pgraph.specs.Planes.{IsPlane}
use Rattle.xdg_graph.specs.Edges.{edge_labels, edges_of}
use Rattle.xdg_pgraph.proofs.PlaneFacts.{which_on, which_place}
use Rattle.xdg_pgraph.proofs.Rising.{nodes_rising}
use Rattle.xdg_facts.specs.Rises.{has}
use Rattle.xdg_facts.proofs.Rising.{contains_of_has, contains_has}
use Rattle.xdg_facts.proofs.Merging.{AreRising, rising_same, map_rising}

-- ---- an edge is told by its two nodes

pub ends_are : (way : Way) (dim node label other : ℕ) → (near_node way (edge_to way dim node label other) ≡ node) × (far_node way (edge_to way dim node label other) ≡ other) × ((edge_to way dim node label other).label.0 ≡ label)
ends_are ways.Out dim node label other = (refl, refl, refl)
ends_are ways.In dim node label other = (refl, refl, refl)

pub edge_told : (way : Way) (dim node label : ℕ) (e : Edge) → e.dim.0 ≡ dim → near_node way e ≡ node → e.label.0 ≡ label → e ≡ edge_to way dim node label (far_node way e)
edge_told ways.Out dim node label e d n l = edge_equal e (edge dim node label e.daughter.0) d n l refl
edge_told ways.In dim node label e d n l = edge_equal e (edge dim e.mother.0 label node) d refl l n

-- ---- those of a list of edges

abbrev pub in_bundle : Way → ℕ → ℕ → Edge → Bool
in_bundle way node label e = (near_node way e == node) && (e.label.0 == label)

pub in_parts : (way : Way) (node label : ℕ) (e : Edge) → in_bundle way node label e ≡ true → (near_node way e ≡ node) × (e.label.0 ≡ label)
in_parts way node label e h = (let both = and_parts (near_node way e == node) (e.label.0 == label) h in (eqb-true (near_node way e) node both.0, eqb-true e.label.0 label both.1))

pub in_from : (way : Way) (node label : ℕ) (e : Edge) → near_node way e ≡ node → e.label.0 ≡ label → in_bundle way node label e ≡ true
in_from way node label e n l = and_from (near_node way e == node) (e.label.0 == label) (eq-eqb (near_node way e) node n) (eq-eqb e.label.0 label l)

pub counted : (way : Way) (edges : List Edge) (node label : ℕ) → length (filter (in_bundle way node label) edges) ≡ count_of way edges node label
counted ways.Out edges node label = length-filter (in_bundle ways.Out node label) edges
counted ways.In edges node label = length-filter (in_bundle ways.In node label) edges

-- of two edges of one bundle the later one has the greater other node
later_far : (way : Way) (dim node label : ℕ) (a b : Edge) → a.dim.0 ≡ dim → b.dim.0 ≡ dim → in_bundle way node label a ≡ true → in_bundle way node label b ≡ true → Before a b → far_node way a < far_node way b
later_far way dim node label a b da db ia ib before = by way (in_parts way node label a ia) (in_parts way node label b ib) before
  where
    by : (w : Way) → (near_node w a ≡ node) × (a.label.0 ≡ label) → (near_node w b ≡ node) × (b.label.0 ≡ label) → Before a b → far_node w a < far_node w b
    by ways.Out na nb before = grind arith
    by ways.In na nb before = grind arith

module _ (way : Way) (edges : List Edge) (dim node label : ℕ) (ends : List ℕ) (ordered : Ordered Before edges) (on : (e : Edge) → Contains edges e → e.dim.0 ≡ dim) (is : IsNodes ends) (exact : (other : ℕ) → IsTrue (has ends other) ↔ Contains edges (edge_to way dim node label other)) where
  abbrev ys : List Edge
  ys = filter (in_bundle way node label) edges

  rising : AreRising (map (far_node way) ys)
  rising = map_rising Before (λ e. (e.dim.0 ≡ dim) × (in_bundle way node label e ≡ true)) (far_node way) (λ x y px py. later_far way dim node label x y px.0 py.0 px.1 py.1) ys
      (each_both (λ e. e.dim.0 ≡ dim) (λ e. in_bundle way node label e ≡ true) ys
      (each_filter (λ e. e.dim.0 ≡ dim) (in_bundle way node label) edges (recursion_from_All (λ e. e.dim.0 ≡ dim) edges (All-weaker (Contains edges) (λ e. e.dim.0 ≡ dim) on edges (All-contains_itself edges))))
      (each_passed (in_bundle way node label) edges))
      (ordered_filter Before (in_bundle way node label) edges ordered)

  there : (n : ℕ) → Contains ends n → Contains (map (far_node way) ys) n
  there n c =
      let e : Edge = edge_to way dim node label n in
      let among = (exact n).0 (contains_has ends n c) in
      let is = ends_are way dim node label n in
      let kept = contains_filter (in_bundle way node label) edges e (in_from way node label e is.0 is.2) among in
      subst (Contains (map (far_node way) ys)) is.1 (contains_map (far_node way) ys e kept)

  back : (n : ℕ) → Contains (map (far_node way) ys) n → Contains ends n
  back n c =
      let found = map_contained (far_node way) ys n c in
      let both = filter_contained (in_bundle way node label) edges found.0 found.1 in
      let told = in_parts way node label found.0 both.1 in
      let same : found.0 ≡ edge_to way dim node label n = edge_told way dim node label found.0 (on found.0 both.0) told.0 told.1 ∙ ap (edge_to way dim node label) found.2 in
      contains_of_has ends n ((exact n).1 (subst (Contains edges) same both.0))

  -- where the set has the other nodes of those edges of a list, it has as many nodes as there are edges
  ends_counted : length ends ≡ count_of way edges node label
  ends_counted = ap length (rising_same ends (map (far_node way) ys) (nodes_rising ends is) rising there back) ∙ length-map ys (far_node way) ∙ counted way edges node label

which_ordered : (which : Which) (parts : Parts) (box : List (List Bool)) (dim : ℕ) → Ordered Before (edges_of which parts box dim)
which_ordered whichs.May parts box dim = ordered_filter Before (may_be parts box dim) (places parts) (places_ordered parts)
which_ordered whichs.Must parts box dim = ordered_filter Before (must_be parts box dim) (places parts) (places_ordered parts)

pub which_counted : (which : Which) (way : Way) (parts : Parts) (box : List (List Bool)) (dim node label : ℕ) (ends : List ℕ) → IsNodes ends → ((other : ℕ) → IsTrue (has ends other) ↔ Contains (edges_of which parts box dim) (edge_to way dim node label other)) → length ends ≡ count_of way (edges_of which parts box dim) node label
which_counted which way parts box dim node label ends is exact = ends_counted way (edges_of which parts box dim) dim node label ends (which_ordered which parts box dim) (λ e c. (which_place which parts box dim e c).1) is exact

-- ---- what the store tells

-- an edge from a node to another
pub between_told : (which : Which) (parts : Parts) (box : List (List Bool)) (dim u l v : ℕ) (b : Bool) → IsTrue b ↔ IsDaughterBy (edges_of which parts box dim) u l v → IsTrue b ↔ Contains (edges_of which parts box dim) (edge dim u l v)
between_told which parts box dim u l v b exact = (
  λ t. (let (k, e, within, at, (m, k_is, d)) = exact.0 t in subst (Contains (edges_of which parts box dim)) (edge_equal e (edge dim u l v) (which_place which parts box dim e (k, within, at)).1 m k_is d) (k, within, at)),
  λ c. exact.1 (any_of (λ e. (e.mother.0 ≡ u) × (e.label.0 ≡ l) × (e.daughter.0 ≡ v)) (edges_of which parts box dim) (edge dim u l v) c (refl, refl, refl)),
)

-- how many edges with a label leave a node, by the nodes to which they lead
pub out_counted : (which : Which) (parts : Parts) (box : List (List Bool)) (dim node label : ℕ) (ends : List ℕ) → IsNodes ends
    → ((other : ℕ) → IsTrue (has ends other) ↔ IsDaughterBy (edges_of which parts box dim) node label other) → length ends ≡ edges_out_of (edges_of which parts box dim) node label
out_counted which parts box dim node label ends is exact = which_counted which ways.Out parts box dim node label ends is (λ other. between_told which parts box dim node label other (has ends other) (exact other))

-- a label of a plane is one of the edges of its dimension
pub label_known : (parts : Parts) (plane : Plane) (node label : ℕ) → IsPlane parts plane → node < plane.nodes → label < plane.labels → label < edge_labels parts plane.dim.0
label_known parts plane node label plane_is within small =
    let h = plane_is.edges node label within small in
    subst (λ b. label < cond b (label_count parts plane.dim.0) 0) (sym h.graph) h.label_in

-- the set has the other nodes of those edges of a bundle that may be, or must be
abbrev pub TellsEnds : Which → State → ℕ → ℕ → ℕ → List ℕ → Way → Type 0
TellsEnds which s dim node label ends way = (other : ℕ) → IsTrue (has ends other) ↔ Contains (edges_of which s.parts s.now dim) (edge_to way dim node label other)

-- a label behind those of the dimension's edges
pub none_behind : (which : Which) (way : Way) (parts : Parts) (box : List (List Bool)) (plane : Plane) (node label other : ℕ) → IsPlane parts plane → plane.labels ≤ label → Contains (edges_of which parts box plane.dim.0) (edge_to way plane.dim.0 node label other) → ⊥
none_behind which way parts box plane node label other plane_is behind c =
    let e : Edge = edge_to way plane.dim.0 node label other in
    let l = (which_on which parts box plane plane_is e c).label in
    let same = (ends_are way plane.dim.0 node label other).2 in
    omega (arith, l, same, behind)

-- Sums that grow by one number after another, of entries and of edges.
use Rattle.std.proofs.Common.{◌≡◌, ℕ, ◌+◌, ◌*◌, ◌<◌, ◌≤◌, ◌↔◌, IsTrue, Bool, List, [], length, get_or, sym, ap, ap₂, ◌∙◌, arith}
use Rattle.std.specs.Prelude.{Contains, not, ◌&&◌, slice_index, slice_index_or}
use Rattle.std.specs.List.{sum_by}
use Rattle.std.proofs.lemmas.List.{get_or-map, get_or_default, length-map}
use Rattle.std.proofs.lemmas.Nat.{mul-le}
use Rattle.xdg_nodeset.specs.Nodes as sets
use Rattle.xdg_facts.specs.Rises.{has as sets_has}
use Rattle.xdg_problem.specs.declared.analysis.Edge.{Edge}
use Rattle.xdg_problem.specs.declared.parts.Parts.{Parts}
use Rattle.xdg_problem.specs.Boxes.{entry_decision, edge_decision}
use Rattle.xdg_problem.specs.Costs.{CostLists, entry_cost, label_cost}
use Rattle.xdg_problem.specs.Paths.{IsDaughterBy, edges_out_of}
use Rattle.xdg_problem.specs.Places.{nodes, places}
use Rattle.xdg_problem.specs.Problems.{IsProblem}
use Rattle.xdg_facts.proofs.Filters.{filter_contained}
use Rattle.xdg_problem.proofs.PlaceOrder.{is_place}
use Rattle.xdg_problem.proofs.PlacePlans.{dim_within}
use Rattle.xdg_graph.specs.declared.which.Which.TheVariants as whichs
use Rattle.xdg_graph.specs.Edges.{edge_labels}
use Rattle.xdg_graph.proofs.Labelled.{label_below}
use Rattle.xdg_rules.specs.Bounds.{sum_below, least_below, or_nothing, node_cost, edge_cost, must_places}
use Rattle.xdg_rules.specs.Rules.{has, must_edges}
use Rattle.xdg_rules.proofs.Summing.{below_same}
use Rattle.xdg_pgraph.proofs.Ends.{out_counted}
use Rattle.xdg_engine.specs.CostRows.{AreLabelCosts, entry_row, entry_rows}
use Rattle.xdg_engine.proofs.Leasts.{row_node, sum_more}
use Rattle.xdg_engine.proofs.Summed.{at_dim, at_label, at_mother, by_dims, counted_out}
use Rattle.xdg_engine.proofs.Swept.{labels_most}

-- one more number
pub sum_next : (f : ℕ → ℕ) (k total here : ℕ) → total ≡ sum_below f k → here ≡ f k → total + here ≡ sum_below f (k + 1)
sum_next f k total here so_far is = ap₂ (λ a b. a + b) so_far is ∙ sym (sum_more f k)

-- one more that is nothing
pub sum_nothing : (f : ℕ → ℕ) (k total : ℕ) → total ≡ sum_below f k → f k ≡ 0 → total ≡ sum_below f (k + 1)
sum_nothing f k total so_far none = (let more = sum_more f k in omega (arith, more, so_far, none))

-- ---- entries

module _ (box : List (List Bool)) (rows : List (List ℕ)) where
  -- the least cost of the entries of a node that remain, by its row
  abbrev pub row_least : ℕ → ℕ
  row_least v = or_nothing (least_below (has box (entry_decision v)) (slice_index (slice_index_or rows v [])) (length (slice_index_or rows v [])))

  pub node_more : (v : ℕ) (row : List ℕ) (total least : ℕ) → v < length rows → row ≡ get_or rows v row → total ≡ sum_below row_least v
      → least ≡ or_nothing (least_below (has box (entry_decision v)) (slice_index row) (length row)) → total + least ≡ sum_below row_least (v + 1)
  node_more v row total least within found so_far is = sum_next row_least v total least so_far
      (is ∙ ap (λ r. or_nothing (least_below (has box (entry_decision v)) (slice_index r) (length r))) (found ∙ sym (get_or_default rows v [] row within)))

module _ (parts : Parts) (costs : CostLists) (rows : List (List ℕ)) (rows_are : rows ≡ entry_rows costs parts) where
  pub rows_count : length rows ≡ length parts.candidates
  rows_count = ap length rows_are ∙ length-map parts.candidates (entry_row costs)

  pub row_at : (v : ℕ) → v < length parts.candidates → slice_index_or rows v [] ≡ entry_row costs (slice_index_or parts.candidates v [])
  row_at v within = ap (λ r. slice_index_or r v []) rows_are ∙ get_or-map (entry_row costs) parts.candidates v [] [] within

  -- a row has as many costs as its node has candidates
  pub row_length : (v : ℕ) (row : List ℕ) → v < length parts.candidates → row ≡ get_or rows v row → length row ≡ length (slice_index_or parts.candidates v [])
  row_length v row within found =
      let in_rows : v < length rows = (let count = rows_count in omega (arith, count, within)) in
      ap length (found ∙ sym (get_or_default rows v [] row in_rows) ∙ row_at v within) ∙ length-map (slice_index_or parts.candidates v []) (λ entry. entry_cost costs entry.0)

  -- at the end
  pub rows_summed : (box : List (List Bool)) (k total : ℕ) → k ≡ nodes parts → length parts.candidates ≡ nodes parts → total ≡ sum_below (row_least box rows) k → total ≡ sum_below (node_cost parts costs box) (nodes parts)
  rows_summed box k total all each is = is ∙ ap (sum_below (row_least box rows)) all
      ∙ below_same (row_least box rows) (node_cost parts costs box) (nodes parts) (λ v l. row_node parts costs box (slice_index_or rows v []) v (row_at v (omega (arith, l, each))))

-- ---- edges

module _ (parts : Parts) (box : List (List Bool)) where
  -- what the edges of a dimension out of a node with a label cost that must be, by the row of the dimension
  abbrev pub label_sum : List ℕ → ℕ → ℕ → ℕ → ℕ
  label_sum row dim m l = slice_index row l * edges_out_of (must_edges parts box dim) m l

  abbrev pub dim_sum : List ℕ → ℕ → ℕ
  dim_sum row dim = sum_below (λ m. sum_below (label_sum row dim m) (edge_labels parts dim)) (nodes parts)

  pub label_more : (dim m l : ℕ) (row : List ℕ) (total : ℕ) (set : List ℕ) → sets.IsNodes set → ((x : ℕ) → IsTrue (sets_has set x) ↔ IsDaughterBy (must_edges parts box dim) m l x)
      → total ≡ sum_below (label_sum row dim m) l → total + slice_index row l * length set ≡ sum_below (label_sum row dim m) (l + 1)
  label_more dim m l row total set are exact so_far = sum_next (label_sum row dim m) l total (slice_index row l * length set) so_far (ap (λ n. slice_index row l * n) (out_counted whichs.Must parts box dim m l set are exact))

  pub label_free : (dim m l : ℕ) (row : List ℕ) (total : ℕ) → slice_index row l ≡ 0 → total ≡ sum_below (label_sum row dim m) l → total ≡ sum_below (label_sum row dim m) (l + 1)
  label_free dim m l row total free so_far = sum_nothing (label_sum row dim m) l total so_far (ap (λ cost. cost * edges_out_of (must_edges parts box dim) m l) free ∙ grind arith)

  -- the numbers of an edge that must be are in range
  in_range : (e : Edge) → Contains (must_places parts box) e → (e.dim.0 < length parts.dims) × (e.mother.0 < nodes parts) × (e.label.0 < edge_labels parts e.dim.0)
  in_range e c =
      let place = is_place parts e (filter_contained (λ e. has box (edge_decision parts e) 0 && not (has box (edge_decision parts e) 1)) (places parts) e c).0 in
      (dim_within parts e place, place.mother, label_below parts e place)

  -- at the end
  pub edges_summed : (costs : CostLists) (rows : List (List ℕ)) (k total : ℕ) → IsProblem parts → AreLabelCosts costs rows → k ≡ length parts.dims → total ≡ sum_below (λ dim. dim_sum (slice_index_or rows dim []) dim) k → total ≡ sum_by (edge_cost costs) (must_places parts box)
  edges_summed costs rows k total problem costs_are all is =
      is ∙ ap (sum_below (λ dim. dim_sum (slice_index_or rows dim []) dim)) all
      ∙ below_same (λ dim. dim_sum (slice_index_or rows dim []) dim) (at_dim (label_cost costs) (length parts.dims) (nodes parts) (edge_labels parts) (must_places parts box)) (length parts.dims) (λ dim dim_in. below_same
      (λ m. sum_below (label_sum (slice_index_or rows dim []) dim m) (edge_labels parts dim))
      (at_mother (label_cost costs) (length parts.dims) (nodes parts) (edge_labels parts) (must_places parts box) dim) (nodes parts) (λ m m_in. below_same
      (label_sum (slice_index_or rows dim []) dim m)
      (at_label (label_cost costs) (length parts.dims) (nodes parts) (edge_labels parts) (must_places parts box) dim m) (edge_labels parts dim) (λ l l_in.
      let few = problem.dims_most in
      let most = labels_most parts dim problem in
      ap₂ (λ a b. a * b) (costs_are dim l (omega (arith, dim_in, few)) (omega (arith, l_in, most))) (sym (counted_out parts box dim m l)))))
      ∙ sym (by_dims (label_cost costs) (length parts.dims) (nodes parts) (edge_labels parts) (must_places parts box) in_range)

-- ---- how great sums can be

-- a cost times a number of nodes
pub cost_times : (cost count : ℕ) → cost < 4294967296 → count ≤ 128 → cost * count ≤ 549755813888
cost_times cost count small few = mul-le cost count 4294967296 128 (omega (arith, small)) few

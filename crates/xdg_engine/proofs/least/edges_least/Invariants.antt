use Rattle.std.proofs.Common.{◌≡◌, ◌≤◌, ◌*◌, []}
use Rattle.std.specs.Prelude.{slice_index, slice_index_or}
use Rattle.xdg_problem.specs.Paths.{edges_out_of}
use Rattle.xdg_problem.specs.Places.{nodes}
use Rattle.xdg_graph.specs.Edges.{edge_labels}
use Rattle.xdg_rules.specs.Bounds.{sum_below}
use Rattle.xdg_rules.specs.Rules.{must_edges}
use Rattle.xdg_engine.proofs.least.edges_least.Given as goal

abbrev pub invariant-loop-dim : goal.invariant-loop-dim
invariant-loop-dim l =
    (l.total ≡ sum_below (λ dim. sum_below (λ mother. sum_below (λ label. slice_index (slice_index_or l.rows dim []) label * edges_out_of (must_edges l.store.parts l.store.now dim) mother label) (edge_labels l.store.parts dim)) (nodes l.store.parts)) l.dim)
    × (l.total ≤ l.dim * 2251799813685248)

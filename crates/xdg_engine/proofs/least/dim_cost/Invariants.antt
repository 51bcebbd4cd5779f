use Rattle.std.proofs.Common.{◌≡◌, ◌≤◌, ◌*◌}
use Rattle.std.specs.Prelude.{slice_index}
use Rattle.xdg_problem.specs.Paths.{edges_out_of}
use Rattle.xdg_graph.specs.Edges.{edge_labels}
use Rattle.xdg_rules.specs.Bounds.{sum_below}
use Rattle.xdg_rules.specs.Rules.{must_edges}
use Rattle.xdg_engine.proofs.least.dim_cost.Given as goal

abbrev pub invariant-loop-mother : goal.invariant-loop-mother
invariant-loop-mother l =
    (l.total ≡ sum_below (λ mother. sum_below (λ label. slice_index l.row label * edges_out_of (must_edges l.store.parts l.store.now l.dim.0) mother label) (edge_labels l.store.parts l.dim.0)) l.mother)
    × (l.total ≤ l.mother * 17592186044416)

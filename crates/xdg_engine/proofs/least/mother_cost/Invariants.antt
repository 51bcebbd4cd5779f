use Rattle.std.proofs.Common.{◌≡◌, ◌≤◌, ◌*◌}
use Rattle.std.specs.Prelude.{slice_index}
use Rattle.xdg_problem.specs.Paths.{edges_out_of}
use Rattle.xdg_rules.specs.Bounds.{sum_below}
use Rattle.xdg_rules.specs.Rules.{must_edges}
use Rattle.xdg_engine.proofs.least.mother_cost.Given as goal

abbrev pub invariant-loop-label : goal.invariant-loop-label
invariant-loop-label l =
    (l.total ≡ sum_below (λ label. slice_index l.row label * edges_out_of (must_edges l.store.parts l.store.now l.dim.0) l.mother.0 label) l.label)
    × (l.total ≤ l.label * 549755813888)

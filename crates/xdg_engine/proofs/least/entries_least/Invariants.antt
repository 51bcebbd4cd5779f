use Rattle.std.proofs.Common.{◌≡◌, ◌≤◌, ◌*◌, [], length}
use Rattle.std.specs.Prelude.{slice_index, slice_index_or}
use Rattle.xdg_problem.specs.Boxes.{entry_decision}
use Rattle.xdg_rules.specs.Bounds.{sum_below, least_below, or_nothing}
use Rattle.xdg_rules.specs.Rules.{has}
use Rattle.xdg_engine.proofs.least.entries_least.Given as goal

abbrev pub invariant-loop-node : goal.invariant-loop-node
invariant-loop-node l =
    (l.total ≡ sum_below (λ v. or_nothing (least_below (has l.store.now (entry_decision v)) (slice_index (slice_index_or l.rows v [])) (length (slice_index_or l.rows v [])))) l.node)
    × (l.total ≤ l.node * 4294967296)

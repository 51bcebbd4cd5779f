use Rattle.std.proofs.Common.{◌≡◌}
use Rattle.std.specs.Prelude.{slice_index}
use Rattle.xdg_problem.specs.Boxes.{entry_decision}
use Rattle.xdg_rules.specs.Bounds.{least_below}
use Rattle.xdg_rules.specs.Rules.{has}
use Rattle.xdg_engine.proofs.least.least_entry.Given as goal

abbrev pub invariant-loop-place : goal.invariant-loop-place
invariant-loop-place l = l.least ≡ least_below (has l.store.now (entry_decision l.node.0)) (slice_index l.row) l.place

use Rattle.std.proofs.Common.{ℕ, ◌<◌, length}
use Rattle.xdg_problem.specs.Boxes.{Has, entry_decision}
use Rattle.xdg_problem.specs.Features.{map_row}
use Rattle.xdg_graph.proofs.entries.each_entry_has_some.Given as goal

abbrev pub invariant-loop-place : goal.invariant-loop-place
invariant-loop-place l = (c : ℕ) → c < l.place → Has l.store.now (entry_decision l.node.0) c → 0 < length (map_row l.group l.node.0 c l.label.0)

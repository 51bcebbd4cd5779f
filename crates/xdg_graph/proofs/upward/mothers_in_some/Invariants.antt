use Rattle.std.proofs.Common.{ℕ, ◌↔◌, IsTrue}
use Rattle.xdg_facts.specs.Rises.{has}
use Rattle.xdg_graph.proofs.ByRow.{InFirst}
use Rattle.xdg_graph.proofs.upward.mothers_in_some.Given as goal

abbrev pub invariant-loop-row : goal.invariant-loop-row
invariant-loop-row l = (x : ℕ) → IsTrue (has l.mothers x) ↔ InFirst l.which l.rows l.row-index x

use Rattle.std.proofs.Common.{◌≡◌, ◌*◌, length}
use Rattle.xdg_pgraph.specs.Allowances.{AreRows}
use Rattle.xdg_pgraph.proofs.allowances.Allowances.of.Given as goal

abbrev pub invariant-loop-node : goal.invariant-loop-node
invariant-loop-node l = AreRows l.parts l.group l.labels l.rows × (length l.rows ≡ l.node * l.labels * 2)

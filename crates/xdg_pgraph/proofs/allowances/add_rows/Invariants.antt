use Rattle.std.proofs.Common.{◌≡◌, ◌+◌, ◌*◌, length}
use Rattle.xdg_pgraph.specs.Allowances.{AreRows}
use Rattle.xdg_pgraph.proofs.allowances.add_rows.Given as goal

abbrev pub invariant-loop-label : goal.invariant-loop-label
invariant-loop-label l = AreRows l.parts l.group l.labels l.rows × (length l.rows ≡ (l.node * l.labels + l.label) * 2)

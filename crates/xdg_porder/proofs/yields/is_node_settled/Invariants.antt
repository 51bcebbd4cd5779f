use Rattle.std.proofs.Common.{ℕ, ◌<◌}
use Rattle.xdg_porder.specs.Yields.{IsLabelSettled}
use Rattle.xdg_porder.proofs.yields.is_node_settled.Given as goal

abbrev pub invariant-loop-label : goal.invariant-loop-label
invariant-loop-label l = (label : ℕ) → label < l.label → IsLabelSettled l.store.parts l.group l.u.0 label l.store.now

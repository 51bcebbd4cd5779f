use Rattle.std.proofs.Common.{ℕ, ◌<◌}
use Rattle.xdg_porder.specs.Yields.{IsNodeSettled}
use Rattle.xdg_porder.proofs.yields.are_settled.Given as goal

abbrev pub invariant-loop-u : goal.invariant-loop-u
invariant-loop-u l = (u : ℕ) → u < l.u → IsNodeSettled l.store.parts l.group u l.store.now

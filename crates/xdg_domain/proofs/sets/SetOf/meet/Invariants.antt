use Rattle.std.proofs.Common.{◌≡◌, ◌++◌, length, drop, ◌+◌, ◌-◌, ◌≤◌}
use Rattle.std.specs.Prelude.{false}
use Rattle.xdg_domain.proofs.sets.SetOf.meet.Given as goal
use Rattle.xdg_facts.proofs.Merging.{together}

abbrev pub invariant-loop-i : goal.invariant-loop-i
invariant-loop-i l = (l.i ≤ length l.mine) × (l.j ≤ length l.theirs) × (l.numbers.items ++ together false (drop l.i l.mine) (drop l.j l.theirs) ≡ together false l.mine l.theirs)

abbrev pub decreases-loop-i : goal.decreases-loop-i
decreases-loop-i l = (length l.mine - l.i) + (length l.theirs - l.j)

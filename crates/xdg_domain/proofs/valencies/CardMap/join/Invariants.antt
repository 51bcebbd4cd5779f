use Rattle.std.proofs.Common.{length, drop, ◌+◌, ◌-◌, ◌≤◌}
use Rattle.xdg_domain.specs.Joined.{allowed}
use Rattle.xdg_domain.proofs.Merged.{Left}
use Rattle.xdg_domain.proofs.valencies.CardMap.join.Given as goal

abbrev pub invariant-loop-i : goal.invariant-loop-i
invariant-loop-i l = (l.i ≤ length l.mine) × (l.j ≤ length l.theirs) × Left (λ key. allowed) l.mine l.theirs l.entries.items (drop l.i l.mine) (drop l.j l.theirs)

abbrev pub decreases-loop-i : goal.decreases-loop-i
decreases-loop-i l = (length l.mine - l.i) + (length l.theirs - l.j)

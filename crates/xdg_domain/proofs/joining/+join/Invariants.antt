use Rattle.std.proofs.Common.{length, drop, ◌-◌, ◌+◌, ◌≤◌}
use Rattle.xdg_domain.specs.Shapes.{shape}
use Rattle.xdg_domain.specs.Joined.{joined, joined_field, fields_in}
use Rattle.xdg_domain.proofs.Merged.{Left}
use Rattle.xdg_domain.proofs.joining.+join.Given as goal

abbrev pub invariant-join_entries-loop-i : goal.invariant-join_entries-loop-i
invariant-join_entries-loop-i l = (l.i ≤ length l.mine) × (l.j ≤ length l.theirs) × Left (λ key. joined (shape l.ty)) l.mine l.theirs l.made (drop l.i l.mine) (drop l.j l.theirs)

abbrev pub decreases-join_entries-loop-i : goal.decreases-join_entries-loop-i
decreases-join_entries-loop-i l = (length l.mine - l.i) + (length l.theirs - l.j)

abbrev pub invariant-join_fields-loop-i : goal.invariant-join_fields-loop-i
invariant-join_fields-loop-i l = (l.i ≤ length l.mine) × (l.j ≤ length l.theirs) × Left (joined_field (fields_in l.types)) l.mine l.theirs l.made (drop l.i l.mine) (drop l.j l.theirs)

abbrev pub decreases-join_fields-loop-i : goal.decreases-join_fields-loop-i
decreases-join_fields-loop-i l = (length l.mine - l.i) + (length l.theirs - l.j)

use Rattle.std.proofs.Common.{◌≡◌, ◌++◌, reverse, length}
use Rattle.xdg_problem.proofs.with_rules.move_turned.Given as goal

abbrev pub invariant-loop-one : goal.invariant-loop-one
invariant-loop-one l = l.groups ++ reverse l.uses ≡ l.initial.groups ++ reverse l.initial.uses

abbrev pub decreases-loop-one : goal.decreases-loop-one
decreases-loop-one l = length l.uses

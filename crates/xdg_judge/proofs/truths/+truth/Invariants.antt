use Rattle.std.specs.Prelude.{true, false}
use Rattle.xdg_problem.specs.Truths.{stands}
use Rattle.xdg_judge.proofs.Formed.{SoFar, SoBelow}
use Rattle.xdg_judge.proofs.truths.+truth.Given as goal

abbrev pub decreases-is_true : goal.decreases-is_true
decreases-is_true l = goal.size-is_true l

abbrev pub invariant-loop-member : goal.invariant-loop-member
invariant-loop-member l = SoFar l.parts l.analysis (stands l.binding) true l.member-items l.member-index

abbrev pub invariant-loop-member-2 : goal.invariant-loop-member-2
invariant-loop-member-2 l = SoFar l.parts l.analysis (stands l.binding) false l.member-items l.member-index

abbrev pub invariant-loop-node : goal.invariant-loop-node
invariant-loop-node l = SoBelow l.parts l.analysis (stands l.binding) true l.formula l.name l.inner l.node

abbrev pub invariant-loop-node-2 : goal.invariant-loop-node-2
invariant-loop-node-2 l = SoBelow l.parts l.analysis (stands l.binding) false l.formula l.name l.inner l.node

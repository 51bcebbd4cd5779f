use Rattle.xdg_lexicon.proofs.Putting.{MembersSoFar}
use Rattle.xdg_lexicon.proofs.growing.add_members.Given as goal

abbrev pub invariant-loop-member : goal.invariant-loop-member
invariant-loop-member l = MembersSoFar l.types l.members l.member-index l.fn.growing l.growing

use Rattle.std.proofs.Common.{ap, map, ◌∙◌}
use Rattle.xdg_classes.specs.Bodies.{body, calls}
use Rattle.xdg_classes.specs.Lent.{called}
use Rattle.xdg_classes.proofs.Bodied.{body_or, body_and, calls_all, walked, call_added}
use Rattle.xdg_classes.proofs.bodies.+add_calls.Goals as goal

pub returns-after-loop-member : goal.returns-after-loop-member
returns-after-loop-member t c =
    walked calls c.args.expr.now c.in-Or.members c.as_slice-member-items.result.now c.loop-member.member-index (map called c.args.made.now) (map called c.loop-member.made)
    (ap calls (ap body c.in-Or.is ∙ body_or c.in-Or.members) ∙ calls_all c.in-Or.members) c.as_slice-member-items.ensures c.loop-member-test.false c.loop-member.invariant

pub returns-after-loop-member-2 : goal.returns-after-loop-member-2
returns-after-loop-member-2 t c =
    walked calls c.args.expr.now c.in-And.members c.as_slice-member-items-in-And.result.now c.loop-member-2.member-index (map called c.args.made.now) (map called c.loop-member-2.made)
    (ap calls (ap body c.in-And.is ∙ body_and c.in-And.members) ∙ calls_all c.in-And.members) c.as_slice-member-items-in-And.ensures c.loop-member-2-test.false c.loop-member-2.invariant

pub returns-in_ok-push-in-Use : goal.returns-in_ok-push-in-Use
returns-in_ok-push-in-Use t c = call_added c.args.expr.now c.in-Use.name c.in-Use.args c.args.made.now _ _ c.in-Use.is (ap (λ ps. record { name = c.in-Use.name; args = ps }) c.args_of.ensures) c.in_ok-push-in-Use.ensures.ok

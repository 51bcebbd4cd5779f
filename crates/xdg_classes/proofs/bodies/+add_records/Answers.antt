use Rattle.std.proofs.Common.{ap, map, ◌∙◌}
use Rattle.xdg_classes.specs.Bodies.{body, records}
use Rattle.xdg_classes.specs.Lent.{said}
use Rattle.xdg_classes.proofs.Bodied.{body_or, body_and, records_all, walked, record_added}
use Rattle.xdg_classes.proofs.bodies.+add_records.Goals as goal

pub returns-after-loop-member : goal.returns-after-loop-member
returns-after-loop-member t c =
    walked records c.args.expr.now c.in-Or.members c.as_slice-member-items.result.now c.loop-member.member-index (map said c.args.made.now) (map said c.loop-member.made)
    (ap records (ap body c.in-Or.is ∙ body_or c.in-Or.members) ∙ records_all c.in-Or.members) c.as_slice-member-items.ensures c.loop-member-test.false c.loop-member.invariant

pub returns-after-loop-member-2 : goal.returns-after-loop-member-2
returns-after-loop-member-2 t c =
    walked records c.args.expr.now c.in-And.members c.as_slice-member-items-in-And.result.now c.loop-member-2.member-index (map said c.args.made.now) (map said c.loop-member-2.made)
    (ap records (ap body c.in-And.is ∙ body_and c.in-And.members) ∙ records_all c.in-And.members) c.as_slice-member-items-in-And.ensures c.loop-member-2-test.false c.loop-member-2.invariant

pub returns-in_ok-push-in-Dim : goal.returns-in_ok-push-in-Dim
returns-in_ok-push-in-Dim t c = record_added c.args.expr.now c.in-Dim.dim c.in-Dim.pairs c.args.made.now _ _ c.in-Dim.is (ap (λ ps. record { dim = c.in-Dim.dim; pairs = ps }) c.as_slice.ensures) c.in_ok-push-in-Dim.ensures.ok

use Rattle.xdg_classes.proofs.Bodied.{body_or, body_and}
use Rattle.xdg_classes.specs.Bodies.{either, both, body}
use Rattle.std.proofs.Common.{◌∙◌, refl, ap}
use Rattle.xdg_check.specs.Counts.{looked_up, uses, sum_of_uses}
use Rattle.xdg_check.proofs.Members.{sums_all, of_form}
use Rattle.xdg_check.proofs.counting.+uses_in.Goals as goal

pub returns-after-loop-member : goal.returns-after-loop-member
returns-after-loop-member t c =
    let names = looked_up (λ x. x.uses) c.args.names.now c.args.classes.now in
    sums_all names c.as_slice-member-items.result.now c.loop-member.member-index c.loop-member.sum _ c.loop-member-test.false c.loop-member.invariant.0 (sum_of_uses names) refl c.loop-member.invariant.1
    ∙ of_form either (sum_of_uses names) (uses names) (λ bs. refl) c.args.expr.now c.in-Or.members c.as_slice-member-items.result.now c.as_slice-member-items.ensures (ap body c.in-Or.is ∙ body_or c.in-Or.members)

pub returns-after-loop-member-2 : goal.returns-after-loop-member-2
returns-after-loop-member-2 t c =
    let names = looked_up (λ x. x.uses) c.args.names.now c.args.classes.now in
    sums_all names c.as_slice-member-items-in-And.result.now c.loop-member-2.member-index c.loop-member-2.sum _ c.loop-member-2-test.false c.loop-member-2.invariant.0 (sum_of_uses names) refl c.loop-member-2.invariant.1
    ∙ of_form both (sum_of_uses names) (uses names) (λ bs. refl) c.args.expr.now c.in-And.members c.as_slice-member-items-in-And.result.now c.as_slice-member-items-in-And.ensures (ap body c.in-And.is ∙ body_and c.in-And.members)

use Rattle.xdg_classes.proofs.Bodied.{body_or, body_and}
use Rattle.xdg_classes.specs.Bodies.{either, both, body}
use Rattle.std.proofs.Common.{◌∙◌, arith, refl, ap}
use Rattle.xdg_check.specs.Counts.{looked_up, combos, sum_of_combos, product_of_combos}
use Rattle.xdg_check.proofs.Members.{sums_all, of_form, pairs_more, pairs_all}
use Rattle.xdg_check.proofs.counting.+combos_in.Goals as goal

pub loop-member-2-preserved : goal.loop-member-2-preserved
loop-member-2-preserved t c =
    let names = looked_up (λ x. x.combos) c.args.names.now c.args.classes.now in (
      omega (arith, c.saturating_mul-product.ensures),
      pairs_more names c.as_slice-member-items-in-And.result.now c.loop-member-2.member-index c.loop-member-2.product _ c.member-item-in-loop-member-2.result c.combos_in-in-loop-member-2.result
          c.saturating_mul-product.result c.loop-member-2-test.true c.member-item-in-loop-member-2.is c.combos_in-in-loop-member-2.ensures c.saturating_mul-product.ensures c.loop-member-2.invariant.1,
    )

pub returns-after-loop-member : goal.returns-after-loop-member
returns-after-loop-member t c =
    let names = looked_up (λ x. x.combos) c.args.names.now c.args.classes.now in
    sums_all names c.as_slice-member-items.result.now c.loop-member.member-index c.loop-member.sum _ c.loop-member-test.false c.loop-member.invariant.0 (sum_of_combos names) refl c.loop-member.invariant.1
    ∙ of_form either (sum_of_combos names) (combos names) (λ bs. refl) c.args.expr.now c.in-Or.members c.as_slice-member-items.result.now c.as_slice-member-items.ensures (ap body c.in-Or.is ∙ body_or c.in-Or.members)

pub returns-after-loop-member-2 : goal.returns-after-loop-member-2
returns-after-loop-member-2 t c =
    let names = looked_up (λ x. x.combos) c.args.names.now c.args.classes.now in
    pairs_all names c.as_slice-member-items-in-And.result.now c.loop-member-2.member-index c.loop-member-2.product _ c.loop-member-2-test.false c.loop-member-2.invariant.0 c.loop-member-2.invariant.1
    ∙ of_form both (product_of_combos names) (combos names) (λ bs. refl) c.args.expr.now c.in-And.members c.as_slice-member-items-in-And.result.now c.as_slice-member-items-in-And.ensures (ap body c.in-And.is ∙ body_and c.in-And.members)

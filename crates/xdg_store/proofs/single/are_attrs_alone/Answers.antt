use Rattle.std.proofs.Common.{◌≡◌, ◌<◌, ◌+◌, ◌*◌, ◌∙◌, true, false, ap, arith, length, get_or, subst, sym}
use Rattle.xdg_problem.specs.declared.parts.AttrPlan.{AttrPlan}
use Rattle.xdg_problem.specs.Arguments.{no_attr}
use Rattle.xdg_store.specs.Singles.{IsAlone}
use Rattle.xdg_store.proofs.Alone.{stops, values_at}
use Rattle.xdg_store.proofs.single.are_attrs_alone.Goals as goal

pub returns-then-not-is_alone : goal.returns-then-not-is_alone
returns-then-not-is_alone c =
    let l : c.loop-attr.attr < length c.args.attrs.now = (let t = c.loop-attr-test.true in omega (arith, t)) in
    let size = values_at c.args.attrs.now c.index-attrs-attr.result c.loop-attr.attr c.len.result l c.index-attrs-attr.is (c.len.ensures ∙ ap (λ (q : AttrPlan). length q.values) (sym c.index-attrs-attr.is)) in (
      λ t. absurd (let q : false ≡ true = t in cc),
      λ all. absurd (stops (λ k. IsAlone c.args.trail.now.words (c.args.start + k * 1024) (length (get_or c.args.attrs.now k no_attr).values)) (length c.args.attrs.now) c.loop-attr.attr c.is_alone.result l
          (λ alone. c.is_alone.ensures.1 (subst (IsAlone c.args.trail.now.words (c.args.start + c.loop-attr.attr * 1024)) (sym size) alone)) c.if-not-is_alone.true all),
    )

use Rattle.std.proofs.Common.{◌<◌, length, get_or, sym, ap, ap₂, ◌∙◌, subst, arith}
use Rattle.xdg_domain.specs.Shapes.{shape, constants}
use Rattle.xdg_build.proofs.Turns.{number_within, constant_within, texts_more, texts_all}
use Rattle.xdg_build.proofs.shown.texts.Goals as goal

pub at-number-requires : goal.at-number-requires
at-number-requires c = number_within c.args.fields.now c.args.tuple.now c.loop-i.i c.requires (omega arith)

pub bounds-constants-number : goal.bounds-constants-number
bounds-constants-number c =
    let within : get_or c.args.tuple.now c.loop-i.i 0 < length (constants (shape c.index-fields-i.result)) = constant_within c.args.fields.now c.args.tuple.now c.loop-i.i c.index-fields-i.result c.requires (omega arith) c.index-fields-i.is in
    subst (λ cs. c.at-number.result < length cs) (sym c.constants.ensures) (subst (λ n. n < length (constants (shape c.index-fields-i.result))) (sym c.at-number.ensures) within)

pub loop-i-preserved : goal.loop-i-preserved
loop-i-preserved c =
    texts_more c.args.fields.now c.args.tuple.now c.loop-i.i c.index-fields-i.result c.loop-i.made c.push.new.self c.in_ok-copy.field-0 c.requires (omega arith) c.index-fields-i.is
    (c.in_ok-copy.ensures ∙ c.index-constants-number.is ∙ ap₂ (λ cs n. get_or cs n c.index-constants-number.result) c.constants.ensures c.at-number.ensures ∙ ap (get_or (constants (shape c.index-fields-i.result)) (get_or c.args.tuple.now c.loop-i.i 0)) (sym c.in_ok-copy.ensures))
    c.loop-i.invariant c.in_ok-push.ensures.ok

pub returns : goal.returns
returns c = c.loop-i.invariant ∙ texts_all c.args.fields.now c.args.tuple.now c.loop-i.i c.requires (omega arith)

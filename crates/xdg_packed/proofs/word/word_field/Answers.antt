use Rattle.std.proofs.Common.{arith, true≢false, sym, ◌∙◌}
use Rattle.xdg_packed.proofs.Places.{field_passed, no_field_left}
use Rattle.xdg_packed.proofs.word.word_field.Goals as goal

pub loop-place-preserved : goal.loop-place-preserved
loop-place-preserved c =
    field_passed c.args.fields.now c.loop-place.place c.index-fields-place.result c.loop-place-test.true c.index-fields-place.is
    (λ word. true≢false (sym (c.is_word.ensures.1 word) ∙ c.if-is_word.false)) c.loop-place.invariant

pub returns : goal.returns
returns c = no_field_left c.args.fields.now c.loop-place.place (omega (arith, c.loop-place-test.false)) c.loop-place.invariant

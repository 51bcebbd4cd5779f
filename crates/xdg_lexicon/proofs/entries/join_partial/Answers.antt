use Rattle.std.proofs.Common.{◌∙◌, []}
use Rattle.std.proofs.lemmas.List.{get_or_default}
use Rattle.xdg_lexicon.proofs.Dims.{JoinsAt, further, within_partial, joined_here, joins_all}
use Rattle.xdg_lexicon.proofs.entries.join_partial.Goals as goal

pub loop-place-preserved : goal.loop-place-preserved
loop-place-preserved c =
    let dims = c.args.dims.now in
    let a = c.args.one.now in
    let b = c.args.other.now in
    let k = c.loop-place.place in
    let x = c.index-one-place in
    let y = c.index-other-place in
    let one = c.as_slice-mine.ensures ∙ x.is ∙ get_or_default a k x.result [] (within_partial dims a k c.loop-place-test.true c.requires.one) in
    let other = c.as_slice-theirs.ensures ∙ y.is ∙ get_or_default b k y.result [] (within_partial dims b k c.loop-place-test.true c.requires.other) in
    further (JoinsAt dims a b) k c.loop-place.made c.push.new.self c.in-Some.both c.in_ok-push-in-Some.ensures.ok c.loop-place.invariant
    (joined_here dims a b k c.index-dims-place.result c.as_slice-mine.result.now c.as_slice-theirs.result.now c.as_slice.result.now c.index-dims-place.is c.as_slice.ensures one other
    c.in_ok-join_records.field-0 c.in_ok-join_records.ensures c.in-Some.both c.in-Some.is)

pub returns : goal.returns
returns c = joins_all c.args.dims.now c.loop-place.place c.loop-place.made c.loop-place-test.false c.loop-place.auto.place-end c.args.one.now c.args.other.now c.loop-place.invariant

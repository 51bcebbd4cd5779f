use Rattle.std.proofs.Common.{get_or, length, sym, ap, ◌∙◌, arith}
use Rattle.xdg_types.specs.declared.table.DimType.{DimType}
use Rattle.xdg_lexicon.proofs.Right.{Here, here, records_further, records_lacking, records_done, whole_right}
use Rattle.xdg_lexicon.proofs.filling.whole_entry.Goals.{After-as_slice}
use Rattle.xdg_lexicon.proofs.filling.whole_entry.Goals as goal

found : (c : After-as_slice) → Here c.args.types.now c.args.partial.now c.loop-place.place-index (get_or c.used-place-items.result.now c.loop-place.place-index 0) c.as_slice.result.now c.as_slice-said.result.now
found c =
    here c.args.types.now c.args.partial.now c.dims-dims.result.now c.used-place-items.result.now c.loop-place.place-index c.index-dims-place.result c.index-partial-place.result
    c.as_slice-said.result.now c.as_slice.result.now c.dims-dims.ensures.keeps c.requires
    c.dims-dims.ensures.same c.used-place-items.ensures.same c.loop-place-test.true c.index-dims-place.is c.index-partial-place.is c.as_slice-said.ensures (c.as_slice.ensures ∙ ap (λ (x : DimType). x.fields) (sym c.index-dims-place.is))

pub filled_record-requires-clause-types : goal.filled_record-requires-clause-types
filled_record-requires-clause-types c = (found (goal.at.filled_record-requires-clause-types c).After-as_slice).types

pub filled_record-requires-clause-rises : goal.filled_record-requires-clause-rises
filled_record-requires-clause-rises c = (found (goal.at.filled_record-requires-clause-rises c).After-as_slice).right.0

pub filled_record-requires-clause-said : goal.filled_record-requires-clause-said
filled_record-requires-clause-said c = (found (goal.at.filled_record-requires-clause-said c).After-as_slice).right.1

pub returns-in-None-clause-whole : goal.returns-in-None-clause-whole
returns-in-None-clause-whole c =
    let h = found (goal.at.returns-in-None-clause-whole c).After-as_slice in
    records_lacking c.args.types.now c.args.partial.now c.loop-place.place-index _ c.loop-place.entry h.inside h.own (h.whole_is ∙ sym c.in_ok-filled_record.ensures ∙ c.in-None.is) c.loop-place.invariant

pub loop-place-preserved : goal.loop-place-preserved
loop-place-preserved c =
    let h = found (goal.at.loop-place-preserved c).After-as_slice in
    records_further c.args.types.now c.args.partial.now c.loop-place.place-index _ c.loop-place.entry c.push.new.self c.in-Some.record h.inside h.own (h.whole_is ∙ sym c.in_ok-filled_record.ensures ∙ c.in-Some.is)
    c.in_ok-push-in-Some.ensures.ok c.loop-place.invariant

pub returns-clause-whole : goal.returns-clause-whole
returns-clause-whole c =
    records_done c.args.types.now c.args.partial.now c.loop-place.place-index c.loop-place.entry (omega (arith, c.loop-place-test.false, ap length c.used-place-items.ensures.same)) c.loop-place.invariant

pub returns-clause-right : goal.returns-clause-right
returns-clause-right c =
    whole_right c.args.types.now c.args.partial.now c.loop-place.entry c.dims-dims.ensures.keeps c.requires
    (sym (records_done c.args.types.now c.args.partial.now c.loop-place.place-index c.loop-place.entry (omega (arith, c.loop-place-test.false, ap length c.used-place-items.ensures.same)) c.loop-place.invariant))

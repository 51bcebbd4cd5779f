use Rattle.std.proofs.Common.{get_or, ◌∙◌, ap, arith}
use Rattle.xdg_print.specs.Printed.{put_lines}
use Rattle.xdg_print.specs.LexiconText.{dim_lines}
use Rattle.xdg_print.proofs.Listed.{used_below, dim_types, dim_said, as_many, next_dim, all_dims}
use Rattle.xdg_print.proofs.listing.put_dim_lines.Goals as goal

pub fields-requires : goal.fields-requires
fields-requires c = as_many c.args.types.now c.used-used.result.now c.args.entry.now c.loop-place.place c.requires c.used-used.ensures.same c.loop-place-test.true

pub put_dim_line-requires-clause-right : goal.put_dim_line-requires-clause-right
put_dim_line-requires-clause-right c =
    dim_types c.args.types.now c.dims-dims.result.now (get_or c.used-used.result.now c.loop-place.place 0) c.index-dims-at.result c.dims-dims.ensures.keeps c.dims-dims.ensures.same
    (used_below c.args.types.now c.dims-dims.result.now c.used-used.result.now c.loop-place.place c.dims-dims.ensures.keeps c.dims-dims.ensures.same c.used-used.ensures.same c.loop-place-test.true)
    c.index-dims-at.is

pub put_dim_line-requires-clause-said : goal.put_dim_line-requires-clause-said
put_dim_line-requires-clause-said c =
    dim_said c.args.types.now c.dims-dims.result.now c.used-used.result.now c.args.entry.now c.loop-place.place c.index-dims-at.result c.fields.result.now c.requires c.dims-dims.ensures.same c.used-used.ensures.same c.loop-place-test.true
    (used_below c.args.types.now c.dims-dims.result.now c.used-used.result.now c.loop-place.place c.dims-dims.ensures.keeps c.dims-dims.ensures.same c.used-used.ensures.same c.loop-place-test.true)
    c.index-dims-at.is c.fields.ensures

pub loop-place-preserved : goal.loop-place-preserved
loop-place-preserved c =
    next_dim c.dims-dims.result.now c.used-used.result.now c.args.entry.now c.loop-place.place c.index-dims-at.result c.fields.result.now c.loop-place.printer c.put_dim_line.new.printer _ c.loop-place-test.true
    (used_below c.args.types.now c.dims-dims.result.now c.used-used.result.now c.loop-place.place c.dims-dims.ensures.keeps c.dims-dims.ensures.same c.used-used.ensures.same c.loop-place-test.true)
    c.index-dims-at.is (as_many c.args.types.now c.used-used.result.now c.args.entry.now c.loop-place.place c.requires c.used-used.ensures.same c.loop-place-test.true) c.fields.ensures c.in_ok-put_dim_line.ensures c.loop-place.invariant

pub returns : goal.returns
returns c =
    all_dims c.dims-dims.result.now c.used-used.result.now c.args.entry.now c.loop-place.place c.loop-place.printer _ (omega (arith, c.loop-place-test.false)) c.loop-place.invariant
    ∙ ap (λ d. put_lines (dim_lines d c.used-used.result.now c.args.entry.now) c.args.printer.now) c.dims-dims.ensures.same
    ∙ ap (λ u. put_lines (dim_lines c.args.types.now.dims u c.args.entry.now) c.args.printer.now) c.used-used.ensures.same

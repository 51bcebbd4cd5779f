use Rattle.std.proofs.Common.{arith, ◌<◌, length, drop, get_or, ap}
use Rattle.std.proofs.lemmas.List.{drop_all, get_or_default}
use Rattle.xdg_io.proofs.Parts.{next_by, stop_by, ends}
use Rattle.xdg_text.specs.Blocks.{node_lines}
use Rattle.xdg_text.proofs.Rests.{attrs_from, values_length, values_at}
use Rattle.xdg_text.proofs.blocks.write_node_lines.Goals as goal

pub bounds-values-at : goal.bounds-values-at
bounds-values-at g c = omega (arith, c.loop-at-test.true, values_length c.args.attrs.now c.args.values.now c.requires.within)

pub write_attr_line-requires-clause-within : goal.write_attr_line-requires-clause-within
write_attr_line-requires-clause-within g c = rw c.index-attrs-at.is (values_at c.args.attrs.now c.args.values.now c.loop-at.at c.index-attrs-at.result c.requires.within c.loop-at-test.true)

pub returns-in_err-write_attr_line : goal.returns-in_err-write_attr_line
returns-in_err-write_attr_line g c =
    let within : c.loop-at.at < length c.args.values.now = omega (arith, c.loop-at-test.true, values_length c.args.attrs.now c.args.values.now c.requires.within) in
    stop_by _ (attrs_from c.args.dim.now c.args.node c.args.attrs.now c.args.values.now c.loop-at.at c.index-attrs-at.result (get_or c.args.values.now c.loop-at.at 0) c.loop-at-test.true within c.index-attrs-at.is (get_or_default _ _ _ _ within)) c.loop-at.invariant c.from_residual.ensures.0 c.in_err-write_attr_line.ensures

pub loop-at-preserved : goal.loop-at-preserved
loop-at-preserved g c =
    let within : c.loop-at.at < length c.args.values.now = omega (arith, c.loop-at-test.true, values_length c.args.attrs.now c.args.values.now c.requires.within) in
    next_by (attrs_from c.args.dim.now c.args.node c.args.attrs.now c.args.values.now c.loop-at.at c.index-attrs-at.result (get_or c.args.values.now c.loop-at.at 0) c.loop-at-test.true within c.index-attrs-at.is (get_or_default _ _ _ _ within)) c.loop-at.invariant c.in_ok-write_attr_line.ensures

pub returns : goal.returns
returns g c = ends c.loop-at.invariant (ap (λ attrs. node_lines c.args.dim.now c.args.node attrs (drop c.loop-at.at c.args.values.now)) (drop_all c.loop-at.at c.args.attrs.now c.loop-at-test.false))

use Rattle.std.proofs.Common.{arith}
use Rattle.xdg_store.proofs.Telling.{first_more}
use Rattle.xdg_store.proofs.labels.label_all.Goals as goal

pub loop-at-preserved : goal.loop-at-preserved
loop-at-preserved c =
    let end = c.len-at-end.ensures in
    let test = c.loop-at-test.true in
    first_more c.args.nodes c.args.dims.now c.args.into.now.items c.loop-at.into.items c.loop-at.at c.index-dims-at.result c.all_labels.result c.requires.count c.loop-at.invariant.0 (omega (arith, end, test)) c.index-dims-at.is c.all_labels.ensures c.loop-at.invariant.1

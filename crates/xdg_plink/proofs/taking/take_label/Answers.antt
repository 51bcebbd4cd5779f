use Rattle.std.proofs.Common.{arith}
use Rattle.xdg_plink.proofs.Daughters.{done_at_others, label_skipped}
use Rattle.xdg_plink.proofs.taking.take_label.Goals as goal

pub returns-then-len-eq0 : goal.returns-then-len-eq0
returns-then-len-eq0 c = label_skipped c.args.near.now c.args.group.now c.args.table.now c.dim_of-dim.result.0 c.args.node.0 c.args.label.0 c.daughters-daughters.result c.args.pass.now c.args.store.now c.requires.at.0.0.known c.dim_of-dim.ensures c.requires.at.0.0.linking c.daughters-daughters.ensures (let e = c.len.ensures.value in let z = c.if-len-eq0.true in omega (arith, e, z)) c.requires.others

pub take_daughters-requires-clause-others : goal.take_daughters-requires-clause-others
take_daughters-requires-clause-others c quiet = done_at_others c.args.near.now c.args.store.now.parts c.args.group.now c.args.store.now.now c.dim_of-dim.result.0 c.args.node.0 c.args.label.0 c.daughters-daughters.result c.dim_of-dim.ensures c.requires.at.0.0.linking c.daughters-daughters.ensures (c.requires.others quiet)

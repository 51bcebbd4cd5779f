use Rattle.std.proofs.Common.{arith}
use Rattle.xdg_pagree.proofs.Others.{label_skipped}
use Rattle.xdg_pagree.proofs.nodes.sweep_mother.Goals as goal

pub returns-then-len-eq0 : goal.returns-then-len-eq0
returns-then-len-eq0 c = label_skipped c.args.touched.now c.args.group.now c.args.dim.0 c.args.mother.0 c.args.label.0 c.daughters_at-daughters.result c.args.pass.now c.args.store.now c.requires.known c.requires.dim c.requires.edges c.requires.principle c.daughters_at-daughters.ensures (let e = c.len.ensures.value in let z = c.if-len-eq0.true in omega (arith, e, z)) c.requires.others

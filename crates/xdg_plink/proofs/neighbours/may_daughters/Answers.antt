use Rattle.std.proofs.Common.{arith}
use Rattle.xdg_plink.proofs.Edges.{no_daughters}
use Rattle.xdg_plink.proofs.neighbours.may_daughters.Goals as goal

pub returns-then-label-from-clause-exact : goal.returns-then-label-from-clause-exact
returns-then-label-from-clause-exact c = no_daughters c.args.store.now.parts c.args.store.now.now c.args.dim.0 c.args.mother.0 c.args.label c.empty.result c.empty.ensures.value (let e = c.labels_of.ensures.count in let f = c.from.ensures in let t = c.if-label-from.true in omega (arith, e, f, t))

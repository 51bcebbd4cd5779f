use Rattle.std.proofs.Common.{arith}
use Rattle.xdg_nodeset.specs.Nodes.{without}
use Rattle.xdg_pgraph.proofs.Searched.{none_found, one_found, more_found}
use Rattle.xdg_pgraph.proofs.finding.entering_with.Goals as goal

pub returns-in_default : goal.returns-in_default
returns-in_default c = none_found c.args.which c.args.store.now.parts c.args.store.now.now c.args.plane.now c.args.daughter c.args.label c.ends-mothers.result c.ends-mothers.ensures c.in_default.ensures.value

pub returns-then-len-gt1 : goal.returns-then-len-gt1
returns-then-len-gt1 c = more_found c.args.which c.args.store.now.parts c.args.store.now.now c.args.plane.now c.args.daughter c.args.label c.ends-mothers.result c.ends-mothers.ensures c.len.ensures.nodes (let e = c.len.ensures.value in let t = c.if-len-gt1.true in omega (arith, e, t))

pub returns : goal.returns
returns c = one_found c.args.which c.args.store.now.parts c.args.store.now.now c.args.plane.now c.args.daughter c.args.label c.ends-mothers.result c.ends-mothers.ensures c.in-Some.mother.0 (without c.ends-mothers.result c.in-Some.mother.0) c.edge.result c.in-Some.ensures.value.0 (let e = c.len.ensures.value in let t = c.if-len-gt1.false in omega (arith, e, t)) c.edge.ensures

use Rattle.std.proofs.Common.{arith}
use Rattle.xdg_problem.specs.Places.{nodes}
use Rattle.xdg_engine.proofs.Freed.{nodes_more, nodes_end}
use Rattle.xdg_engine.proofs.cost_prop.forbid_label.Goals as goal

pub loop-mother-preserved : goal.loop-mother-preserved
loop-mother-preserved c = nodes_more c.args.group.now c.args.dim.0 c.args.label.0 c.args.pass.now c.args.store.now c.requires.takes c.requires.group c.loop-mother.mother c.loop-mother.pass c.loop-mother.store c.daughters_by-must.result c.forbid_beyond.new.pass c.forbid_beyond.new.store c.loop-mother.invariant c.daughters_by-must.ensures.exact c.forbid_beyond.ensures.clears c.forbid_beyond.ensures.known

pub returns : goal.returns
returns c = nodes_end c.args.group.now c.args.dim.0 c.args.label.0 c.args.pass.now c.args.store.now c.requires.takes c.requires.group c.loop-mother.mother (nodes c.args.store.now.parts) c.loop-mother.pass c.loop-mother.store (let t = c.loop-mother-test.false in let e = c.node_count-mother-end.ensures.size in omega (arith, t, e)) c.loop-mother.invariant

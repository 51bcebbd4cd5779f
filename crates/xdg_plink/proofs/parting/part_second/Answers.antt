use Rattle.std.proofs.Common.{arith}
use Rattle.xdg_plink.proofs.Apart.{second_end, second_turn}
use Rattle.xdg_plink.proofs.parting.part_second.Goals as goal

pub loop-label-preserved : goal.loop-label-preserved
loop-label-preserved c = second_turn c.args.group.now c.args.place c.args.pass.now c.args.store.now c.requires.can c.requires.asks c.requires.must c.dim_of-dim.result.0 c.dim_of-dim.ensures c.loop-label.label c.loop-label.pass c.loop-label.store c.forbid.new.self c.forbid.new.store (let t = c.loop-label-test.true in let e = c.labels_of-label-end.ensures.count in omega (arith, t, e)) c.loop-label.invariant c.forbid.ensures.clears c.forbid.ensures.known

pub returns : goal.returns
returns c = second_end c.args.group.now c.args.place c.args.pass.now c.args.store.now c.requires.can c.requires.asks c.requires.must c.dim_of-dim.result.0 c.dim_of-dim.ensures c.loop-label.label c.loop-label.pass c.loop-label.store (let t = c.loop-label-test.false in let e = c.labels_of-label-end.ensures.count in omega (arith, t, e)) c.loop-label.invariant

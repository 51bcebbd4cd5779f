use Rattle.xdg_propcore.proofs.Aimed.{passed_all, passed_more, passed_start}
use Rattle.xdg_pmulti.specs.Aims.{Beyond, Forbids}
use Rattle.xdg_pmulti.proofs.Aiming.{out_all}
use Rattle.xdg_pmulti.proofs.Forbidding.{passed_node}
use Rattle.xdg_pmulti.proofs.taking.forbid_out.Goals as goal

pub loop-mother-init : goal.loop-mother-init
loop-mother-init c = (tt, tt, passed_start (λ parts u. Forbids parts c.args.dim.0 (Beyond u c.args.label.0 c.args.within)) c.into_iter-mother-iterator.result c.args.pass.now c.args.store.now, c.requires.known)

pub forbid_beyond-requires-clause-node : goal.forbid_beyond-requires-clause-node
forbid_beyond-requires-clause-node c =
    passed_node (λ parts u. Forbids parts c.args.dim.0 (Beyond u c.args.label.0 c.args.within)) c.args.mothers c.iter-mother-items.result c.into_iter-mother-iterator.result c.loop-mother.mother-iterator c.next.new.self c.in-Some.mother.0 c.args.pass.now c.loop-mother.pass c.args.store.now c.loop-mother.store c.iter-mother-items.ensures.value c.into_iter-mother-iterator.ensures.into_iter_gives c.in-Some.ensures.steps c.requires.nodes c.loop-mother.invariant.2

pub loop-mother-preserved : goal.loop-mother-preserved
loop-mother-preserved c =
    (tt, tt, passed_more (λ parts u. Forbids parts c.args.dim.0 (Beyond u c.args.label.0 c.args.within)) c.into_iter-mother-iterator.result c.loop-mother.mother-iterator c.next.new.self c.in-Some.mother.0 c.args.pass.now c.loop-mother.pass c.forbid_beyond.new.pass c.args.store.now c.loop-mother.store c.forbid_beyond.new.store c.in-Some.ensures.steps c.loop-mother.invariant.2 c.forbid_beyond.ensures.clears, c.forbid_beyond.ensures.known)

pub returns-clause-clears : goal.returns-clause-clears
returns-clause-clears c = out_all c.args.store.now.parts c.args.dim.0 c.args.label.0 c.args.mothers c.args.within c.args.pass.now c.loop-mother.pass c.args.store.now c.loop-mother.store
    (passed_all (λ parts u. Forbids parts c.args.dim.0 (Beyond u c.args.label.0 c.args.within)) c.args.mothers c.iter-mother-items.result c.into_iter-mother-iterator.result c.loop-mother.mother-iterator c.args.pass.now c.loop-mother.pass c.args.store.now c.loop-mother.store c.iter-mother-items.ensures.value c.into_iter-mother-iterator.ensures.into_iter_gives c.in-None.ensures.steps.0 c.loop-mother.invariant.2)

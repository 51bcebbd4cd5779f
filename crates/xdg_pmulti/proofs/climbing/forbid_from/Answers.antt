use Rattle.std.proofs.Common.{arith}
use Rattle.xdg_pmulti.specs.Aims.{Beyond, Forbids}
use Rattle.xdg_pmulti.proofs.Aiming.{from_all}
use Rattle.xdg_propcore.proofs.Aimed.{first_more, first_none}
use Rattle.xdg_pmulti.proofs.climbing.forbid_from.Goals as goal

pub loop-label-init : goal.loop-label-init
loop-label-init c = (first_none (λ parts x. Forbids parts c.args.dim.0 (Beyond c.args.mother.0 x c.args.within)) c.args.pass.now c.args.store.now, c.requires.known)

pub loop-label-preserved : goal.loop-label-preserved
loop-label-preserved c =
    (first_more (λ parts x. Forbids parts c.args.dim.0 (Beyond c.args.mother.0 x c.args.within)) c.loop-label.label c.args.pass.now c.loop-label.pass c.forbid_beyond.new.pass c.args.store.now c.loop-label.store c.forbid_beyond.new.store c.loop-label.invariant.0 c.forbid_beyond.ensures.clears, c.forbid_beyond.ensures.known)

pub returns-clause-clears : goal.returns-clause-clears
returns-clause-clears c = from_all c.args.store.now.parts c.args.dim.0 c.args.mother.0 c.loop-label.label c.args.within c.args.pass.now c.loop-label.pass c.args.store.now c.loop-label.store (let t = c.loop-label-test.false in let e = c.labels_of-label-end.ensures.count in omega (arith, t, e)) c.loop-label.invariant.0

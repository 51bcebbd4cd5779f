use Rattle.std.proofs.Common.{arith}
use Rattle.xdg_propcore.proofs.Aimed.{first_more, first_none}
use Rattle.xdg_pgraph.specs.Seeking.{Aims, ToWith}
use Rattle.xdg_pgraph.proofs.Taken.{labels_entering}
use Rattle.xdg_pgraph.proofs.taking.forbid_entering.Goals as goal

pub loop-label-init : goal.loop-label-init
loop-label-init c = (first_none (λ parts x. Aims parts c.args.plane.now.dim.0 c.args.others (ToWith c.args.daughter x)) c.args.pass.now c.args.store.now, c.requires.known)

pub loop-label-preserved : goal.loop-label-preserved
loop-label-preserved c =
    (first_more (λ parts x. Aims parts c.args.plane.now.dim.0 c.args.others (ToWith c.args.daughter x)) c.loop-label.label c.args.pass.now c.loop-label.pass c.forbid_labelled.new.pass c.args.store.now c.loop-label.store c.forbid_labelled.new.store c.loop-label.invariant.0 c.forbid_labelled.ensures.clears, c.forbid_labelled.ensures.known)

pub returns-clause-clears : goal.returns-clause-clears
returns-clause-clears c =
    labels_entering c.args.store.now.parts c.args.plane.now c.args.others c.args.daughter c.loop-label.label c.args.pass.now c.loop-label.pass c.args.store.now c.loop-label.store c.requires.plane (let t = c.loop-label-test.false in omega (arith, t)) c.loop-label.invariant.0

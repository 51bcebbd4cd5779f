use Rattle.std.proofs.Common.{[], get_or, arith, subst}
use Rattle.xdg_propcore.specs.Passes.{Clears}
use Rattle.xdg_pmulti.specs.Aims.{Forbids, StoppedBy}
use Rattle.xdg_pmulti.proofs.Aiming.{blocked_all}
use Rattle.xdg_propcore.proofs.Aimed.{first_more, first_none}
use Rattle.xdg_pmulti.proofs.barriers.forbid_blocked.Goals as goal

pub loop-label-init : goal.loop-label-init
loop-label-init c = (first_none (λ parts x. Forbids parts c.args.dim.0 (StoppedBy (get_or c.args.blocking.now x []) x c.args.over.now c.args.near.now)) c.args.pass.now c.args.store.now, c.requires.known)

pub loop-label-preserved : goal.loop-label-preserved
loop-label-preserved c =
    (first_more (λ parts x. Forbids parts c.args.dim.0 (StoppedBy (get_or c.args.blocking.now x []) x c.args.over.now c.args.near.now)) c.loop-label.label c.args.pass.now c.loop-label.pass c.forbid_stopped.new.pass c.args.store.now c.loop-label.store c.forbid_stopped.new.store c.loop-label.invariant.0 (subst (λ s. Clears (Forbids c.loop-label.store.parts c.args.dim.0 (StoppedBy s c.loop-label.label c.args.over.now c.args.near.now)) c.loop-label.pass c.loop-label.store c.forbid_stopped.new.pass c.forbid_stopped.new.store) c.barriers_at-barriers.ensures c.forbid_stopped.ensures.clears), c.forbid_stopped.ensures.known)

pub returns-clause-clears : goal.returns-clause-clears
returns-clause-clears c = blocked_all c.args.store.now.parts c.args.dim.0 c.loop-label.label c.args.blocking.now c.args.over.now c.args.near.now c.args.pass.now c.loop-label.pass c.args.store.now c.loop-label.store (let t = c.loop-label-test.false in let e = c.labels_of-label-end.ensures.count in omega (arith, t, e)) c.loop-label.invariant.0

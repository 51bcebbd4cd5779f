use Rattle.std.proofs.Common.{arith}
use Rattle.xdg_propcore.proofs.Touches.{small_decision, touched_all}
use Rattle.xdg_propcore.proofs.touched.Touched.gather.Goals as goal

pub add-requires : goal.add-requires
add-requires c = small_decision c.args.store.now.parts _ c.removed_since-removed.ensures.known.problem (c.removed_since-removed.ensures.names.each c.loop-decision.decision-index _ c.loop-decision-test.true)

pub returns-clause-touched : goal.returns-clause-touched
returns-clause-touched c = touched_all c.args.store.now.parts c.args.dim.0 c.removed_since-removed.ensures.known.problem _ c.args.store.now.now c.removed_since-removed.result.now c.removed_since-removed.ensures.names c.loop-decision.self c.loop-decision.decision-index (let t = c.loop-decision-test.false in omega (arith, t)) c.loop-decision.invariant

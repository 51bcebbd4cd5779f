use Rattle.std.proofs.Common.{◌∙◌, arith, sym}
use Rattle.std.proofs.lemmas.Bool.{false≢true}
use Rattle.xdg_propcore.proofs.Touches.{small_decision}
use Rattle.xdg_pgraph.proofs.MustsStay.{lost_more}
use Rattle.xdg_pgraph.proofs.lasting.lost_daughters.Goals as goal

pub with_daughter-daughters-requires : goal.with_daughter-daughters-requires
with_daughter-daughters-requires c = small_decision c.args.store.now.parts _ c.requires.known.problem (c.requires.decisions c.loop-decision.decision-index _ c.loop-decision-test.true)

pub loop-decision-preserved : goal.loop-decision-preserved
loop-decision-preserved c = lost_more c.args.store.now.parts c.args.store.now.now c.args.dim.0 c.args.decisions.now c.loop-decision.decision-index _ c.loop-decision.daughters c.with_daughter-daughters.result c.loop-decision-test.true (λ must. false≢true (sym c.if-is_must.false ∙ c.is_must.ensures.1 must)) c.with_daughter-daughters.ensures.here c.with_daughter-daughters.ensures.stays c.loop-decision.invariant

pub returns : goal.returns
returns c i d l = (let t = c.loop-decision-test.false in c.loop-decision.invariant i (omega (arith, l, t)) d)

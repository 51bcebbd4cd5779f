use Rattle.xdg_pgraph.proofs.MustsStay.{AreLost}
use Rattle.xdg_pgraph.proofs.lasting.lost_daughters.Given as goal

abbrev pub invariant-loop-decision : goal.invariant-loop-decision
invariant-loop-decision l = AreLost l.store.parts l.store.now l.dim.0 l.decisions l.decision-index l.daughters

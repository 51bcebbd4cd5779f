use Rattle.xdg_judge.proofs.Tallies.{Tallied}
use Rattle.xdg_judge.proofs.counts.tally.Given as goal

abbrev pub invariant-loop-edge : goal.invariant-loop-edge
invariant-loop-edge l = Tallied l.condition l.dim l.edges l.edge-index l.table

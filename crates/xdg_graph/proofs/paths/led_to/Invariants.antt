use Rattle.xdg_graph.proofs.Widening.{IsLedToBy}
use Rattle.xdg_graph.proofs.paths.led_to.Given as goal

abbrev pub invariant-loop-at : goal.invariant-loop-at
invariant-loop-at l = IsLedToBy l.at l.table l.ends

use Rattle.xdg_best.proofs.Comes.{Going}
use Rattle.xdg_best.proofs.building.build.Given as goal

abbrev pub invariant-loop-statement : goal.invariant-loop-statement
invariant-loop-statement l = Going l.types l.entries l.said l.statement-index l.made

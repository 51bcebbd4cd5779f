use Rattle.xdg_judge.specs.Graphs.{AreGraphs}
use Rattle.xdg_judge.proofs.truths.formula_holds.Given as goal

abbrev pub invariant-loop-dim : goal.invariant-loop-dim
invariant-loop-dim l = AreGraphs l.dim l.analysis l.tables

use Rattle.std.proofs.Common.{take}
use Rattle.std.specs.Prelude.{All}
use Rattle.xdg_judge.specs.Verdicts.{IsKeptHere}
use Rattle.xdg_judge.proofs.judge.judge.Given as goal

abbrev pub invariant-loop-condition : goal.invariant-loop-condition
invariant-loop-condition l = All (IsKeptHere l.view.parts.now l.view.group.now l.view.analysis.now) (take l.condition-index l.condition-items)

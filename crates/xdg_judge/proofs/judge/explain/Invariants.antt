use Rattle.std.proofs.Common.{take}
use Rattle.std.specs.List.{AllZip}
use Rattle.xdg_judge.specs.Verdicts.{IsVerdict}
use Rattle.xdg_judge.proofs.judge.explain.Given as goal

abbrev pub invariant-loop-group : goal.invariant-loop-group
invariant-loop-group l = AllZip (IsVerdict l.problem l.analysis) (take l.group-index l.group-items) l.verdicts

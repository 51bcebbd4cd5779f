use Rattle.std.proofs.Common.{◌≡◌, [], slice_index_or}
use Rattle.xdg_problem.specs.declared.parts.Group.{Group as Use}
use Rattle.xdg_pgraph.specs.Allowances.{AreClasses}
use Rattle.xdg_pgraph.proofs.allowances.Row.of.Given as goal

abbrev pub invariant-loop-entry : goal.invariant-loop-entry
invariant-loop-entry l = (group : Use) → l.candidates ≡ slice_index_or group.feats l.bundle.node [] → AreClasses l.entry group l.bundle l.row

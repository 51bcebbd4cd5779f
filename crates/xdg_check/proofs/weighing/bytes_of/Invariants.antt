use Rattle.std.proofs.Common.{◌+◌, map, take}
use Rattle.xdg_classes.specs.Lent.{class_def}
use Rattle.xdg_check.specs.Made.{IsNamed}
use Rattle.xdg_check.specs.Weights.{default_bytes, IsCountOf}
use Rattle.xdg_check.proofs.weighing.bytes_of.Given as goal

abbrev pub invariant-loop-statement : goal.invariant-loop-statement
invariant-loop-statement l = IsNamed l.classes → IsCountOf l.bytes (0 + default_bytes (map class_def l.classes.definitions) (take l.statement-index l.statements))

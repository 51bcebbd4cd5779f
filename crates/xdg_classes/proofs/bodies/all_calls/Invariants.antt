use Rattle.std.proofs.Common.{◌≡◌, map, take}
use Rattle.xdg_classes.specs.Names as all
use Rattle.xdg_classes.specs.Lent.{called}
use Rattle.xdg_classes.proofs.bodies.all_calls.Given as goal

abbrev pub invariant-loop-statement : goal.invariant-loop-statement
invariant-loop-statement l = map called l.made ≡ all.all_calls (take l.statement-index l.statements)

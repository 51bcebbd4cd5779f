use Rattle.std.proofs.Common.{◌≡◌, drop}
use Rattle.std.specs.Prelude.{slice_get}
use Rattle.xdg_types.specs.Parts.{used_places}
use Rattle.xdg_typing.proofs.kinds.check_uses.Given as goal

abbrev pub invariant-loop-statement : goal.invariant-loop-statement
invariant-loop-statement l = slice_get (used_places (drop l.statement-index l.statements)) l.left ≡ slice_get (used_places l.statements) 8

use Rattle.std.proofs.Common.{◌≡◌, take}
use Rattle.xdg_types.specs.Parts.{used_names}
use Rattle.xdg_typing.specs.Used.{places}
use Rattle.xdg_typing.proofs.dimensions.used_places.Given as goal

abbrev pub invariant-loop-statement : goal.invariant-loop-statement
invariant-loop-statement l = l.all ≡ places l.known (used_names (take l.statement-index l.statements))

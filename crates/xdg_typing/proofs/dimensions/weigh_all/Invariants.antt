use Rattle.std.proofs.Common.{◌≡◌, take}
use Rattle.xdg_typing.specs.Weights.{Weighs}
use Rattle.xdg_typing.specs.Branches.{Naming}
use Rattle.xdg_typing.specs.Small.{given_types, weight_of_all}
use Rattle.xdg_typing.proofs.dimensions.weigh_all.Given as goal

abbrev pub invariant-loop-statement : goal.invariant-loop-statement
invariant-loop-statement l = (names : Naming) → Weighs names l.definitions.names l.definitions.weights.items → l.all ≡ weight_of_all names (given_types (take l.statement-index l.statements))

use Rattle.std.proofs.Common.{◌≡◌, take}
use Rattle.xdg_typing.specs.Weights.{Weighs}
use Rattle.xdg_typing.specs.Branches.{Naming}
use Rattle.xdg_typing.specs.Small.{given_in, weight_of_all}
use Rattle.xdg_typing.proofs.dimensions.weigh_parts.Given as goal

abbrev pub invariant-loop-part : goal.invariant-loop-part
invariant-loop-part l = (names : Naming) → Weighs names l.definitions.names l.definitions.weights.items → l.all ≡ weight_of_all names (given_in (take l.part-index l.parts))

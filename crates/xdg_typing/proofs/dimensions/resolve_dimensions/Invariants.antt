use Rattle.std.proofs.Common.{map, take}
use Rattle.xdg_types.specs.Parts.{dimensions}
use Rattle.xdg_typing.specs.Branches.{Naming}
use Rattle.xdg_typing.specs.Heads.{Knows}
use Rattle.xdg_types.specs.Table.{AreDims}
use Rattle.xdg_typing.proofs.dimensions.resolve_dimensions.Given as goal

abbrev pub invariant-loop-statement : goal.invariant-loop-statement
invariant-loop-statement l = (names : Naming) → Knows names l.definitions.names (map (λ head. head.now) l.definitions.heads.items) → AreDims names (dimensions (take l.statement-index l.statements)) l.all

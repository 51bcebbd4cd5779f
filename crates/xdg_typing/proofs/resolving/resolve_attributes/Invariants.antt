use Rattle.std.proofs.Common.{◌≡◌, map, take}
use Rattle.xdg_typing.specs.Heads.{Knows}
use Rattle.xdg_types.specs.Table.{typed}
use Rattle.xdg_typing.specs.Branches.{Naming, attribute_meaning}
use Rattle.xdg_typing.proofs.resolving.resolve_attributes.Given as goal

abbrev pub invariant-loop-field : goal.invariant-loop-field
invariant-loop-field l = (names : Naming) → Knows names l.definitions.names (map (λ head. head.now) l.definitions.heads.items) → typed l.all ≡ map (attribute_meaning names) (take l.field-index l.fields)

use Rattle.xdg_types.specs.Parts.{attrs_type}
use Rattle.std.proofs.Common.{◌≡◌, IfOk, subst}
use Rattle.xdg_types.specs.Table.{typed}
use Rattle.xdg_typing.proofs.Dims.{attributes_are}
use Rattle.xdg_typing.proofs.Rooms.{given_room, attrs_less}
use Rattle.xdg_typing.proofs.dimensions.attributes.Goals as goal

pub resolve_attributes-requires : goal.resolve_attributes-requires
resolve_attributes-requires c =
    given_room c.args.definitions.now.names _ attrs_type attrs_less c.args.parts.now
    c.in-Some.ty.now c.head.result.now.kind c.in-Rec.fields c.as_slice.result.now 16777216 c.in-Some.ensures (λ names knows. c.head.ensures names knows) c.in-Rec.is c.as_slice.ensures c.requires

pub returns-in-Rec : goal.returns-in-Rec
returns-in-Rec c = λ names knows.
    subst (λ all. IfOk c.resolve_attributes.result (λ made. typed made ≡ all)) (attributes_are names _ c.in-Some.ty.now c.head.result.now c.in-Rec.fields _ c.in-Some.ensures (c.head.ensures names knows) c.in-Rec.is c.as_slice.ensures)
    (c.resolve_attributes.ensures names knows)

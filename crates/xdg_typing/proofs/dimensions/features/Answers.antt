use Rattle.xdg_types.specs.Parts.{entry_type}
use Rattle.std.proofs.Common.{◌≡◌, IfOk, subst}
use Rattle.xdg_types.specs.Table.{typed}
use Rattle.xdg_typing.proofs.Dims.{features_are}
use Rattle.xdg_typing.proofs.Rooms.{given_room, entry_less}
use Rattle.xdg_typing.proofs.dimensions.features.Goals as goal

pub resolve_members-requires : goal.resolve_members-requires
resolve_members-requires c =
    given_room c.args.definitions.now.names _ entry_type entry_less c.args.parts.now
    c.in-Some.ty.now c.head.result.now.kind c.in-Rec.fields c.as_slice.result.now 16777216 c.in-Some.ensures (λ names knows. c.head.ensures names knows) c.in-Rec.is c.as_slice.ensures c.requires

pub returns-in-Rec : goal.returns-in-Rec
returns-in-Rec c = λ names knows.
    subst (λ all. IfOk c.resolve_members.result (λ made. typed made ≡ all)) (features_are names _ c.in-Some.ty.now c.head.result.now c.in-Rec.fields _ c.in-Some.ensures (c.head.ensures names knows) c.in-Rec.is c.as_slice.ensures)
    (c.resolve_members.ensures names knows)

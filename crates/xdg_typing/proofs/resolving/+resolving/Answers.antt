use Rattle.std.proofs.Common.{rules}
use Rattle.xdg_typing.proofs.Shaped.{made_rec, made_tuple}
use Rattle.xdg_typing.proofs.Rooms.{record_room, tuple_room, each_room, field_room}
use Rattle.xdg_typing.proofs.resolving.+resolving.Goals as goal

pub resolve_form-returns-in_ok-made-in-Rec : goal.resolve_form-returns-in_ok-made-in-Rec
resolve_form-returns-in_ok-made-in-Rec t c = λ names knows _. made_rec names _ c.in-Rec.members _ _ c.in-Rec.is c.as_slice-in-Rec.ensures (c.in_ok-made-in-Rec.ensures names knows)

pub resolve_form-returns-in_ok-made-in-Tuple : goal.resolve_form-returns-in_ok-made-in-Tuple
resolve_form-returns-in_ok-made-in-Tuple t c = λ names knows _. made_tuple names _ c.in-Tuple.types _ _ c.in-Tuple.is c.as_slice-in-Tuple.ensures (c.in_ok-made-in-Tuple.ensures names knows)

pub resolve_form-resolve_members-requires : goal.resolve_form-resolve_members-requires
resolve_form-resolve_members-requires t c = (search rules, record_room c.args.definitions.now.names _ c.args.form.now c.in-Rec.members c.as_slice-in-Rec.result.now c.args.room c.in-Rec.is c.as_slice-in-Rec.ensures c.requires)

pub resolve_form-resolve_domains-requires : goal.resolve_form-resolve_domains-requires
resolve_form-resolve_domains-requires t c = (search rules, tuple_room c.args.definitions.now.names _ c.args.form.now c.in-Tuple.types c.as_slice-in-Tuple.result.now c.args.room c.in-Tuple.is c.as_slice-in-Tuple.ensures c.requires)

pub resolve_domains-resolve_domain-requires : goal.resolve_domains-resolve_domain-requires
resolve_domains-resolve_domain-requires t c = (search rules, each_room c.args.definitions.now.names _ c.args.types.now c.loop-ty.ty-index c.ty-item.result c.args.room c.loop-ty-test.true c.ty-item.is c.requires)

pub resolve_members-resolve-requires : goal.resolve_members-resolve-requires
resolve_members-resolve-requires t c = (search rules, field_room c.args.definitions.now.names _ c.args.fields.now c.loop-field.field-index c.field-item.result c.args.room c.loop-field-test.true c.field-item.is c.requires)

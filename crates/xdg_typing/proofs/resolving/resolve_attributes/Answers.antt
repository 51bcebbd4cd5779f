use Rattle.xdg_typing.proofs.Rooms.{field_room}
use Rattle.xdg_typing.proofs.resolving.resolve_attributes.Goals as goal

pub resolve_domain-requires : goal.resolve_domain-requires
resolve_domain-requires c = field_room c.args.definitions.now.names _ c.args.fields.now c.loop-field.field-index c.field-item.result c.args.room c.loop-field-test.true c.field-item.is c.requires

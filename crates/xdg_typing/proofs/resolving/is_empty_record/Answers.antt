use Rattle.xdg_typing.proofs.Shaped.{rec_is_empty}
use Rattle.xdg_typing.proofs.resolving.is_empty_record.Goals as goal

pub returns-in-Rec : goal.returns-in-Rec
returns-in-Rec c = rec_is_empty _ c.in-Rec.members _ c.in-Rec.is c.is_empty.ensures

use Rattle.xdg_reading.proofs.Insides.{goes_as}
use Rattle.xdg_reading.proofs.cursor.Cursor.plain.Goals as goal

pub returns : goal.returns
returns c = goes_as _ _ _ _ _ c.self.view_is c.plain_length-length.ensures c.split_at.ensures.front c.split_at.ensures.back

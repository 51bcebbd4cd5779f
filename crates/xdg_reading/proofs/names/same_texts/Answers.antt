use Rattle.xdg_reading.proofs.Turns.{other_length}
use Rattle.xdg_reading.proofs.names.same_texts.Goals as goal

pub returns-then-xs-ys : goal.returns-then-xs-ys
returns-then-xs-ys c = other_length _ _ c.if-xs-ys.true

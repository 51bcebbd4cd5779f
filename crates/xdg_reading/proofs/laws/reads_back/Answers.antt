use Rattle.xdg_reading.proofs.Back as back
use Rattle.xdg_reading.proofs.laws.reads_back.Goals as goal

pub returns : goal.returns
returns c = back.reads_back

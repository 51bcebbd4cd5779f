use Rattle.xdg_split.proofs.Together.{have_one_split}
use Rattle.xdg_split.proofs.splitting.split_laws.Goals as goal

pub returns : goal.returns
returns c = have_one_split

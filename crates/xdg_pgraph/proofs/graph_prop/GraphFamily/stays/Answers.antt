use Rattle.xdg_pgraph.proofs.Staying.{stays_closed}
use Rattle.xdg_pgraph.proofs.graph_prop.GraphFamily.stays.Goals as goal

pub returns : goal.returns
returns c = stays_closed

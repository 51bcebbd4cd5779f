use Rattle.xdg_propcore.proofs.Decided.{decides}
use Rattle.xdg_propcore.proofs.deciding.still_decides.Goals as goal

pub returns : goal.returns
returns g c p = decides (g.P.Propagator.stands p) (g.P.Propagator.still p) (c.laws.ensures.still_closed p)

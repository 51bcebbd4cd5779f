use Rattle.xdg_store.proofs.Daughters.{daughters_may_exact}
use Rattle.xdg_store.proofs.Histories.{known_seen}
use Rattle.xdg_store.proofs.store.Store.daughters_may.Goals as goal

pub returns-clause-known : goal.returns-clause-known
returns-clause-known c = known_seen c.self.invariant.0 c.self.view_is

pub returns-clause-exact : goal.returns-clause-exact
returns-clause-exact c node = daughters_may_exact c.self.invariant.0 c.self.view_is c.self.invariant.1 c.requires c.edge_row-row.ensures
    c.self.inside.all c.row_nodes.result c.meet-daughters.result c.remove.new.self c.self.invariant.2 c.remove.ensures.members node c.row_nodes.ensures c.meet-daughters.ensures.members

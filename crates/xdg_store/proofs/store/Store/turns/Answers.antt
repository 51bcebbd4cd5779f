use Rattle.xdg_store.proofs.Histories.{known_seen}
use Rattle.xdg_store.proofs.store.Store.turns.Goals as goal

pub returns-clause-known : goal.returns-clause-known
returns-clause-known c = known_seen c.self.invariant.0 c.self.view_is

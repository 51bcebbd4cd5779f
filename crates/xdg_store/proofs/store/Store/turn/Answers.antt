use Rattle.xdg_store.proofs.Histories.{known_of}
use Rattle.xdg_store.proofs.store.Store.turn.Goals as goal

pub returns-clause-known : goal.returns-clause-known
returns-clause-known c = known_of c.self.inside.problem.now c.saturating_add-self-inside.result c.self.inside.trail c.self.invariant.0

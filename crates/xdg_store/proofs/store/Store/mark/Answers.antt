use Rattle.xdg_store.proofs.Histories.{known_seen, last_at, marked}
use Rattle.xdg_store.proofs.store.Store.mark.Goals as goal

pub returns-clause-known : goal.returns-clause-known
returns-clause-known c = known_seen c.self.invariant.0 c.self.view_is

pub returns-clause-mark : goal.returns-clause-mark
returns-clause-mark c = marked c.self.inside.trail c.self.view_is c.mark.ensures.value

pub returns-clause-last : goal.returns-clause-last
returns-clause-last c = last_at c.args.self.now c.mark.result (returns-clause-known c) (returns-clause-mark c)

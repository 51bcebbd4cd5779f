use Rattle.std.proofs.Common.{arith}
use Rattle.xdg_store.proofs.Histories.{known_seen}
use Rattle.xdg_store.proofs.Kept.{mothers_read, mothers_within}
use Rattle.xdg_store.proofs.store.Store.mothers_must.Goals as goal

pub index-requires : goal.index-requires
index-requires c =
    let r = mothers_within c.self.invariant.0 c.self.view_is c.self.invariant.4 c.self.invariant.5 c.self.invariant.1 c.requires c.mothers_at.ensures in
    let l = c.self.inside.across.ok.0 in
    omega (arith, r, l)

pub returns-clause-known : goal.returns-clause-known
returns-clause-known c = known_seen c.self.invariant.0 c.self.view_is

pub returns-clause-exact : goal.returns-clause-exact
returns-clause-exact c node = (mothers_read c.self.invariant.0 c.self.view_is c.self.invariant.4 c.self.invariant.5 c.self.invariant.1 c.requires c.mothers_at.ensures c.index.result.now c.index.ensures node).1

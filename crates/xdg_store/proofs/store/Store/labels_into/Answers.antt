use Rattle.std.proofs.Common.{arith}
use Rattle.xdg_store.proofs.Histories.{known_seen}
use Rattle.xdg_store.proofs.Telling.{labels_read, labels_within}
use Rattle.xdg_store.proofs.store.Store.labels_into.Goals as goal

pub index-requires : goal.index-requires
index-requires c =
    let there = labels_within c.self.invariant.0 c.self.view_is c.self.invariant.4 c.self.invariant.5 c.self.invariant.1 c.labels_at.ensures c.requires.dim c.requires.daughter in
    let k = c.self.inside.into.ok.0 in
    omega (arith, there, k)

pub returns-clause-known : goal.returns-clause-known
returns-clause-known c = known_seen c.self.invariant.0 c.self.view_is

pub returns-clause-may : goal.returns-clause-may
returns-clause-may c = (labels_read c.self.invariant.0 c.self.view_is c.self.invariant.4 c.self.invariant.5 c.self.invariant.1 c.labels_at.ensures c.requires.dim c.requires.daughter c.index.result.now c.index.ensures).0

pub returns-clause-must : goal.returns-clause-must
returns-clause-must c = (labels_read c.self.invariant.0 c.self.view_is c.self.invariant.4 c.self.invariant.5 c.self.invariant.1 c.labels_at.ensures c.requires.dim c.requires.daughter c.index.result.now c.index.ensures).1

use Rattle.std.proofs.Common.{refl}
use Rattle.xdg_store.proofs.Histories.{known_seen}
use Rattle.xdg_store.proofs.Rowwise.{entry_is_row, row_has}
use Rattle.xdg_store.proofs.store.Store.entry_in.Goals as goal

pub returns-clause-known : goal.returns-clause-known
returns-clause-known c = known_seen c.self.invariant.0 c.self.view_is

pub returns-clause-exact : goal.returns-clause-exact
returns-clause-exact c = row_has c.self.invariant.0 c.self.view_is (entry_is_row c.self.invariant.0 c.self.view_is c.args.node c.requires c.entry_row.ensures refl) c.is_set.ensures

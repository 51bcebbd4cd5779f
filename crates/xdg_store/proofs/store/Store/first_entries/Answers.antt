use Rattle.xdg_store.proofs.Histories.{known_seen}
use Rattle.xdg_store.proofs.Rowwise.{entries_have, entry_word}
use Rattle.xdg_store.proofs.store.Store.first_entries.Goals as goal

pub word-requires : goal.word-requires
word-requires c = entry_word c.self.invariant.0 c.self.view_is c.requires c.entry_row.ensures

pub returns-clause-known : goal.returns-clause-known
returns-clause-known c = known_seen c.self.invariant.0 c.self.view_is

pub returns-clause-exact : goal.returns-clause-exact
returns-clause-exact c place few has = entries_have c.self.invariant.0 c.self.view_is c.args.node has c.entry_row.ensures c.word.ensures few

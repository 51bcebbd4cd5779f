use Rattle.xdg_problem.specs.Boxes.{entry_decision}
use Rattle.xdg_store.specs.Change.{IsTaken}
use Rattle.xdg_propcore.proofs.Passing.{entry_clears}
use Rattle.xdg_propcore.proofs.Shrinking.{removal_extends}
use Rattle.xdg_propcore.proofs.pass.Pass.remove_entries.Goals as goal

pub returns-clause-clears : goal.returns-clause-clears
returns-clause-clears c = entry_clears c.remove_entries-change.result c.args.self.now c.note.new.self c.args.store.now c.remove_entries-change.new.self c.args.node.0 c.entries.result.0 (IsTaken c.args.block c.args.taken) c.remove_entries-change.ensures.known c.requires.node_in c.remove_entries-change.ensures.removes c.entries.ensures c.note.ensures

pub returns-clause-parts : goal.returns-clause-parts
returns-clause-parts c = (removal_extends c.remove_entries-change.result c.args.store.now c.remove_entries-change.new.self (entry_decision c.args.node.0) (IsTaken c.args.block c.args.taken) c.remove_entries-change.ensures.removes).same

use Rattle.std.proofs.Common.{◌≡◌}
use Rattle.xdg_problem.specs.Boxes.{entry_decision}
use Rattle.xdg_propcore.proofs.Passing.{entry_clears, goes_cleared}
use Rattle.xdg_propcore.proofs.Shrinking.{one_removed}
use Rattle.xdg_propcore.proofs.pass.Pass.remove_entry.Goals as goal

pub returns-clause-clears : goal.returns-clause-clears
returns-clause-clears c = entry_clears c.remove_entry-change.result c.args.self.now c.note.new.self c.args.store.now c.remove_entry-change.new.self c.args.node.0 c.entries.result.0 (λ x. x ≡ c.args.place) c.remove_entry-change.ensures.known c.requires.node_in (one_removed c.remove_entry-change.result c.args.store.now c.remove_entry-change.new.self (entry_decision c.args.node.0) c.args.place c.remove_entry-change.ensures.removes) c.entries.ensures c.note.ensures

pub returns-clause-goes : goal.returns-clause-goes
returns-clause-goes c group is takes = goes_cleared group c.args.self.now c.note.new.self c.args.store.now c.remove_entry-change.new.self _ c.args.place (entry_clears c.remove_entry-change.result c.args.self.now c.note.new.self c.args.store.now c.remove_entry-change.new.self c.args.node.0 c.entries.result.0 (λ x. x ≡ c.args.place) c.remove_entry-change.ensures.known c.requires.node_in (one_removed c.remove_entry-change.result c.args.store.now c.remove_entry-change.new.self (entry_decision c.args.node.0) c.args.place c.remove_entry-change.ensures.removes) c.entries.ensures c.note.ensures) is takes

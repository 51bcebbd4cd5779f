use Rattle.xdg_propcore.proofs.Passing.{attr_clears, goes_cleared}
use Rattle.xdg_propcore.proofs.pass.Pass.remove_attr.Goals as goal

pub returns-clause-clears : goal.returns-clause-clears
returns-clause-clears c = attr_clears c.remove_attr-change.result c.args.self.now c.note.new.self c.args.store.now c.remove_attr-change.new.self c.args.node.0 c.args.dim.0 c.args.attr.0 c.args.value c.attrs.result.0 c.remove_attr-change.ensures.known c.requires c.remove_attr-change.ensures.removes c.attrs.ensures c.note.ensures

pub returns-clause-goes : goal.returns-clause-goes
returns-clause-goes c group is takes = goes_cleared group c.args.self.now c.note.new.self c.args.store.now c.remove_attr-change.new.self _ c.args.value (attr_clears c.remove_attr-change.result c.args.self.now c.note.new.self c.args.store.now c.remove_attr-change.new.self c.args.node.0 c.args.dim.0 c.args.attr.0 c.args.value c.attrs.result.0 c.remove_attr-change.ensures.known c.requires c.remove_attr-change.ensures.removes c.attrs.ensures c.note.ensures) is takes

use Rattle.xdg_propcore.proofs.Passing.{edge_clears, goes_cleared}
use Rattle.xdg_propcore.proofs.pass.Pass.forbid.Goals as goal

pub returns-clause-clears : goal.returns-clause-clears
returns-clause-clears c = edge_clears c.forbid_edge-change.result c.args.self.now c.note.new.self c.args.store.now c.forbid_edge-change.new.self c.args.edge 0 c.edges.result.0 c.forbid_edge-change.ensures.known c.requires c.forbid_edge-change.ensures.removes c.edges.ensures c.note.ensures

pub returns-clause-goes : goal.returns-clause-goes
returns-clause-goes c group is takes = goes_cleared group c.args.self.now c.note.new.self c.args.store.now c.forbid_edge-change.new.self _ 0 (edge_clears c.forbid_edge-change.result c.args.self.now c.note.new.self c.args.store.now c.forbid_edge-change.new.self c.args.edge 0 c.edges.result.0 c.forbid_edge-change.ensures.known c.requires c.forbid_edge-change.ensures.removes c.edges.ensures c.note.ensures) is takes

use Rattle.xdg_propcore.proofs.Passing.{edge_clears, goes_cleared}
use Rattle.xdg_propcore.proofs.pass.Pass.force.Goals as goal

pub returns-clause-clears : goal.returns-clause-clears
returns-clause-clears c = edge_clears c.force_edge-change.result c.args.self.now c.note.new.self c.args.store.now c.force_edge-change.new.self c.args.edge 1 c.edges.result.0 c.force_edge-change.ensures.known c.requires c.force_edge-change.ensures.removes c.edges.ensures c.note.ensures

pub returns-clause-goes : goal.returns-clause-goes
returns-clause-goes c group is takes = goes_cleared group c.args.self.now c.note.new.self c.args.store.now c.force_edge-change.new.self _ 1 (edge_clears c.force_edge-change.result c.args.self.now c.note.new.self c.args.store.now c.force_edge-change.new.self c.args.edge 1 c.edges.result.0 c.force_edge-change.ensures.known c.requires c.force_edge-change.ensures.removes c.edges.ensures c.note.ensures) is takes

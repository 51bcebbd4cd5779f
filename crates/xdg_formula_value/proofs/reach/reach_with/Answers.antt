use Rattle.xdg_graph.specs.Edges.{edges_of}
use Rattle.xdg_formula_value.proofs.Reached.{reach_has}
use Rattle.xdg_formula_value.proofs.reach.reach_with.Goals as goal

pub returns : goal.returns
returns c = reach_has c.args.way (edges_of c.args.which c.args.store.now.parts c.args.store.now.now c.args.dim.0) c.args.node.0 c.reach-reached.result c.insert.new.self c.reach-reached.ensures c.insert.ensures.members

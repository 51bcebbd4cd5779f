use Rattle.xdg_nodeset.specs.Nodes.{without}
use Rattle.xdg_graph.specs.Edges.{edges_of}
use Rattle.xdg_formula_value.proofs.Reached.{walk_end, walk_ends, walk_on, walk_start}
use Rattle.xdg_formula_value.proofs.reach.reach.Goals as goal
use Rattle.xdg_facts.proofs.Rising.{head_in}

pub loop-next-init : goal.loop-next-init
loop-next-init c = walk_start c.args.way (edges_of c.args.which c.args.store.now.parts c.args.store.now.now c.args.dim.0) c.args.node.0 c.next_to-reached.result c.empty-taken.result c.next_to-reached.ensures c.empty-taken.ensures.value

pub loop-next-smaller : goal.loop-next-smaller
loop-next-smaller c = walk_ends c.loop-next.reached c.loop-next.taken c.minus.result c.insert.new.self c.in-Some.next.0 c.minus.ensures.members
    (head_in c.minus.result (without c.minus.result c.in-Some.next.0) c.in-Some.next.0 c.in-Some.ensures.value.0) c.insert.ensures.members c.in-Some.ensures.value.1

pub loop-next-preserved : goal.loop-next-preserved
loop-next-preserved c = walk_on c.args.way (edges_of c.args.which c.args.store.now.parts c.args.store.now.now c.args.dim.0) c.args.node.0 c.loop-next.reached c.loop-next.taken c.minus.result c.insert.new.self c.next_to.result c.union-reached.result c.in-Some.next.0 c.loop-next.invariant c.minus.ensures.members
    (head_in c.minus.result (without c.minus.result c.in-Some.next.0) c.in-Some.next.0 c.in-Some.ensures.value.0) c.insert.ensures.members c.next_to.ensures c.union-reached.ensures.members

pub returns : goal.returns
returns c = walk_end c.args.way (edges_of c.args.which c.args.store.now.parts c.args.store.now.now c.args.dim.0) c.args.node.0 c.loop-next.reached c.loop-next.taken c.minus.result c.loop-next.invariant c.minus.ensures.members c.in_default.ensures.value

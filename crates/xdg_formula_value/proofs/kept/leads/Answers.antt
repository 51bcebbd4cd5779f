use Rattle.xdg_nodeset.specs.Nodes.{without}
use Rattle.xdg_propcore.specs.Standing.{box_at}
use Rattle.xdg_formula_value.proofs.Keeping.{last_beyond, last_either, last_fewer}
use Rattle.xdg_formula_value.proofs.kept.leads.Goals as goal
use Rattle.xdg_facts.proofs.Rising.{head_in}
use Rattle.xdg_facts.proofs.Sets.{fewer_minus, fewer_remove}

pub lasting-more-requires-clause-mother : goal.lasting-more-requires-clause-mother
lasting-more-requires-clause-mother c = (c.loop-turn.invariant.1 c.in-Some.node.0 (head_in c.loop-turn.ahead (without c.loop-turn.ahead c.in-Some.node.0) c.in-Some.node.0 c.in-Some.ensures.value.0)).0

pub loop-turn-preserved : goal.loop-turn-preserved
loop-turn-preserved c =
    let more = last_beyond c.args.which c.args.store.now.parts (box_at c.args.store.now c.args.since) c.args.store.now.now c.args.edge.dim.0 c.args.edge.mother.0 c.in-Some.node.0 c.lasting-more.result
    (c.loop-turn.invariant.1 c.in-Some.node.0 (head_in c.loop-turn.ahead (without c.loop-turn.ahead c.in-Some.node.0) c.in-Some.node.0 c.in-Some.ensures.value.0)) c.lasting-more.ensures in (
      last_either c.args.which c.args.store.now.parts (box_at c.args.store.now c.args.since) c.args.store.now.now c.args.edge.dim.0 c.args.edge.mother.0 c.loop-turn.reached c.lasting-more.result c.union-reached.result c.union-reached.ensures.members c.loop-turn.invariant.0 more,
      last_either c.args.which c.args.store.now.parts (box_at c.args.store.now c.args.since) c.args.store.now.now c.args.edge.dim.0 c.args.edge.mother.0 c.remove.new.self c.minus.result c.union-ahead.result c.union-ahead.ensures.members
          (last_fewer c.args.which c.args.store.now.parts (box_at c.args.store.now c.args.since) c.args.store.now.now c.args.edge.dim.0 c.args.edge.mother.0 c.loop-turn.ahead c.remove.new.self (fewer_remove c.loop-turn.ahead c.remove.new.self c.in-Some.node.0 c.remove.ensures.members) c.loop-turn.invariant.1)
          (last_fewer c.args.which c.args.store.now.parts (box_at c.args.store.now c.args.since) c.args.store.now.now c.args.edge.dim.0 c.args.edge.mother.0 c.lasting-more.result c.minus.result (fewer_minus c.lasting-more.result c.loop-turn.reached c.minus.result c.minus.ensures.members) more),
    )

use Rattle.std.proofs.Common.{refl, arith, get_or, length, ◌≤◌}
use Rattle.std.proofs.lemmas.List.{get_or_default}
use Rattle.xdg_problem.specs.Places.{edge}
use Rattle.xdg_judge.proofs.Tallies.{tallied_start, tallied_most, tallied_here, tallied_over, tallied_end}
use Rattle.xdg_judge.proofs.counts.tally.Goals as goal
use Rattle.xdg_judge.proofs.counts.tally.Goals.{then-edge-dim, else-edge-dim}

pub loop-edge-init : goal.loop-edge-init
loop-edge-init c = tallied_start c.args.condition c.args.dim c.args.edges.now 128 128 _ refl

pub count_one-requires-clause-room : goal.count_one-requires-clause-room
count_one-requires-clause-room c = let most = tallied_most c.args.condition c.args.dim c.args.edges.now c.loop-edge.edge-index c.loop-edge.table c.keys_of-a.result.0 c.keys_of-a.result.1 c.loop-edge.invariant in omega (arith, most)

pub loop-edge-preserved : goal.loop-edge-preserved
loop-edge-preserved c =
    let newest = get_or c.args.edges.now c.loop-edge.edge-index (edge 0 0 0 0) in
    let at = get_or_default c.args.edges.now c.loop-edge.edge-index (edge 0 0 0 0) newest c.loop-edge-test.true in
    elim c.if-edge-dim.branch [
      | then-edge-dim w ↦ rw w.table-is (tallied_here c.args.condition c.args.dim c.args.edges.now c.loop-edge.edge-index c.loop-edge.table w.count_one.new.table newest w.keys_of-a.result.0 w.keys_of-a.result.1 c.loop-edge-test.true at w.if-edge-dim.true w.keys_of-a.ensures.first w.keys_of-a.ensures.second w.count_one.ensures c.loop-edge.invariant)
      | else-edge-dim w ↦ rw w.table-is (tallied_over c.args.condition c.args.dim c.args.edges.now c.loop-edge.edge-index c.loop-edge.table newest c.loop-edge-test.true at w.if-edge-dim.false c.loop-edge.invariant)
    ]

pub returns : goal.returns
returns c = tallied_end c.args.condition c.args.dim c.args.edges.now c.loop-edge.edge-index c.loop-edge.table (let l : length c.args.edges.now ≤ c.loop-edge.edge-index = omega arith in l) c.loop-edge.invariant

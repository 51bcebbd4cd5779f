use Rattle.std.proofs.Common.{◌+◌, arith}
use Rattle.xdg_graph.specs.Edges.{edges_of}
use Rattle.xdg_pgraph.specs.Seeking.{Into}
use Rattle.xdg_pgraph.proofs.Searched.{into_two, into_turn, into_end}
use Rattle.xdg_pgraph.proofs.finding.entering.Goals as goal

pub returns-then-is_more : goal.returns-then-is_more
returns-then-is_more c = into_two (Into (edges_of c.args.which c.args.store.now.parts c.args.store.now.now c.args.plane.now.dim.0) c.args.daughter) (c.loop-label.label + 1) c.merged-found.result (c.is_more.ensures.0 c.if-is_more.true)
    (into_turn c.args.which c.args.store.now.parts c.args.store.now.now c.args.plane.now c.args.daughter c.loop-label.label c.loop-label.found c.entering_with.result c.merged-found.result c.entering_with.ensures c.merged-found.ensures c.loop-label.invariant)

pub loop-label-preserved : goal.loop-label-preserved
loop-label-preserved c = into_turn c.args.which c.args.store.now.parts c.args.store.now.now c.args.plane.now c.args.daughter c.loop-label.label c.loop-label.found c.entering_with.result c.merged-found.result c.entering_with.ensures c.merged-found.ensures c.loop-label.invariant

pub returns : goal.returns
returns c = into_end c.args.which c.args.store.now.parts c.args.store.now.now c.args.plane.now c.requires.plane c.args.daughter c.loop-label.label c.loop-label.found (let t = c.loop-label-test.false in omega (arith, t)) c.loop-label.invariant

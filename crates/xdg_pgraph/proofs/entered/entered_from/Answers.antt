use Rattle.std.proofs.Common.{arith}
use Rattle.xdg_graph.specs.Edges.{edges_of}
use Rattle.xdg_pgraph.specs.Entering.{Leaving}
use Rattle.xdg_pgraph.proofs.Told.{told_none, told_next, from_end}
use Rattle.xdg_pgraph.proofs.entered.entered_from.Goals as goal

pub loop-label-init : goal.loop-label-init
loop-label-init c = told_none (λ e. e.label.0) (Leaving (edges_of c.args.which c.args.store.now.parts c.args.store.now.now c.args.plane.now.dim.0) c.args.mother) c.nowhere-entered.result c.nowhere-entered.ensures

pub loop-label-preserved : goal.loop-label-preserved
loop-label-preserved c =
    told_next (λ e. e.label.0) (Leaving (edges_of c.args.which c.args.store.now.parts c.args.store.now.now c.args.plane.now.dim.0) c.args.mother) c.loop-label.label c.loop-label.entered c.entered_with.result c.merged-entered.result c.merged-entered.ensures.some c.merged-entered.ensures.more c.loop-label.invariant c.entered_with.ensures

pub returns : goal.returns
returns c = from_end c.args.which c.args.store.now.parts c.args.store.now.now c.args.plane.now c.requires.plane c.args.mother c.loop-label.label c.loop-label.entered (let t = c.loop-label-test.false in omega (arith, t)) c.loop-label.invariant

use Rattle.std.proofs.Common.{◌+◌, ◌*◌, ◌/◌, ◌%◌, below_more, get_or, subst}
use Rattle.xdg_problem.specs.declared.parts.DimPlan.{DimPlan}
use Rattle.xdg_problem.specs.Arguments.{no_plan}
use Rattle.xdg_store.specs.Singles.{IsNodeAlone}
use Rattle.xdg_store.proofs.Alone.{plan_at}
use Rattle.xdg_store.proofs.single.are_nodes_alone.Goals as goal

pub loop-at-preserved : goal.loop-at-preserved
loop-at-preserved c = below_more (λ k. IsNodeAlone c.args.trail.now.words (get_or c.args.dims.now (k / c.args.nodes) no_plan) (c.args.nodes * 1024 + k * 16384) c.args.nodes (k % c.args.nodes)) c.loop-at.at c.loop-at.invariant
    (subst (λ (q : DimPlan). IsNodeAlone c.args.trail.now.words q (c.args.nodes * 1024 + c.loop-at.at * 16384) c.args.nodes (c.loop-at.at % c.args.nodes)) (plan_at c.args.dims.now c.index-dims-at.result c.loop-at.at c.args.nodes c.requires.some c.loop-at-test.true c.index-dims-at.is)
    (c.is_node_alone.ensures.0 c.if-not-is_node_alone.false))

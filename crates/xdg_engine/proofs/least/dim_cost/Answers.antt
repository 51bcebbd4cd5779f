use Rattle.std.proofs.Common.{◌≡◌, arith, subst}
use Rattle.xdg_problem.specs.Places.{nodes}
use Rattle.xdg_graph.specs.Edges.{edge_labels}
use Rattle.xdg_rules.specs.Bounds.{sum_below}
use Rattle.xdg_engine.proofs.Totals.{label_sum, sum_next}
use Rattle.xdg_engine.proofs.least.dim_cost.Goals as goal

pub loop-mother-preserved : goal.loop-mother-preserved
loop-mother-preserved c = (
  sum_next (λ m. sum_below (label_sum c.args.store.now.parts c.args.store.now.now c.args.row.now c.args.dim.0 m) (edge_labels c.args.store.now.parts c.args.dim.0)) c.loop-mother.mother c.loop-mother.total c.mother_cost-total.result c.loop-mother.invariant.0 c.mother_cost-total.ensures.exact,
  (let most = c.loop-mother.invariant.1 in let small = c.mother_cost-total.ensures.small in omega (arith, most, small)),
)

pub returns-clause-exact : goal.returns-clause-exact
returns-clause-exact c =
    let count : c.loop-mother.mother ≡ nodes c.args.store.now.parts = (let past = c.loop-mother-test.false in let end = c.loop-mother.auto.mother-end in let size = c.node_count-mother-end.ensures.size in omega (arith, past, end, size)) in
    subst (λ k. c.loop-mother.total ≡ sum_below (λ m. sum_below (label_sum c.args.store.now.parts c.args.store.now.now c.args.row.now c.args.dim.0 m) (edge_labels c.args.store.now.parts c.args.dim.0)) k) count c.loop-mother.invariant.0

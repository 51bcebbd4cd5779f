use Rattle.std.proofs.Common.{◌≡◌, ◌∙◌, [], ap, arith, length}
use Rattle.std.specs.Prelude.{slice_index_or}
use Rattle.xdg_problem.specs.declared.parts.Parts.{Parts}
use Rattle.xdg_engine.proofs.Totals.{dim_sum, edges_summed, sum_next}
use Rattle.xdg_engine.proofs.least.edges_least.Goals as goal

pub loop-dim-preserved : goal.loop-dim-preserved
loop-dim-preserved c = (
  sum_next (λ dim. dim_sum c.args.store.now.parts c.args.store.now.now (slice_index_or c.args.rows.now dim []) dim) c.loop-dim.dim c.loop-dim.total c.dim_cost-total.result c.loop-dim.invariant.0 c.dim_cost-total.ensures.exact,
  (let most = c.loop-dim.invariant.1 in let small = c.dim_cost-total.ensures.small in omega (arith, most, small)),
)

pub returns-clause-exact : goal.returns-clause-exact
returns-clause-exact c costs costs_are =
    let dims : length c.parts.result.now.dims ≡ length c.args.store.now.parts.dims = ap (λ (p : Parts). length p.dims) (c.parts.ensures.same ∙ c.problem.ensures.parts) in
    let past = c.loop-dim-test.false in
    let end = c.loop-dim.auto.dim-end in
    let count = c.len-dim-end.ensures in
    let few = c.problem.ensures.known.problem.dims_most in
    edges_summed c.args.store.now.parts c.args.store.now.now costs c.args.rows.now c.loop-dim.dim c.loop-dim.total c.problem.ensures.known.problem costs_are (omega (arith, dims, past, end, count, few)) c.loop-dim.invariant.0

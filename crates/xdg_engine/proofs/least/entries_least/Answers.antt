use Rattle.std.proofs.Common.{◌∙◌, ◌<◌, ap, arith, get_or, length}
use Rattle.xdg_engine.proofs.Totals.{node_more, row_length, rows_count, rows_summed}
use Rattle.xdg_engine.proofs.least.entries_least.Goals as goal

pub bounds-as_slice-node : goal.bounds-as_slice-node
bounds-as_slice-node c =
    let t = c.loop-node-test.true in
    let e = c.node_count-node-end.ensures.size in
    let count = rows_count c.args.store.now.parts c.requires.0 c.args.rows.now c.requires.1 in
    let each = c.node_count-node-end.ensures.known.problem.candidates_each in
    let s = ap length c.as_slice.ensures in
    omega (arith, t, e, count, each, s)

pub least_entry-requires-clause-row : goal.least_entry-requires-clause-row
least_entry-requires-clause-row c =
    let within : c.loop-node.node < length c.args.store.now.parts.candidates = (let t = c.loop-node-test.true in let e = c.node_count-node-end.ensures.size in let each = c.node_count-node-end.ensures.known.problem.candidates_each in omega (arith, t, e, each)) in
    row_length c.args.store.now.parts c.requires.0 c.as_slice.result.now (c.as_slice.ensures ∙ c.requires.1) c.loop-node.node c.index-as_slice-node.result within c.index-as_slice-node.is

pub loop-node-preserved : goal.loop-node-preserved
loop-node-preserved c = (
  node_more c.args.store.now.now c.args.rows.now c.loop-node.node c.index-as_slice-node.result c.loop-node.total c.least_entry.result
      (let t = c.loop-node-test.true in let e = c.node_count-node-end.ensures.size in let count = rows_count c.args.store.now.parts c.requires.0 c.args.rows.now c.requires.1 in let each = c.node_count-node-end.ensures.known.problem.candidates_each in omega (arith, t, e, count, each))
      (c.index-as_slice-node.is ∙ ap (λ rs. get_or rs c.loop-node.node c.index-as_slice-node.result) c.as_slice.ensures) c.loop-node.invariant.0 c.least_entry.ensures.exact,
  (let most = c.loop-node.invariant.1 in omega (arith, most)),
)

pub returns-clause-exact : goal.returns-clause-exact
returns-clause-exact c costs rows_are = rows_summed c.args.store.now.parts costs c.args.rows.now rows_are c.args.store.now.now c.loop-node.node c.loop-node.total
    (let past = c.loop-node-test.false in let end = c.loop-node.auto.node-end in let size = c.node_count-node-end.ensures.size in omega (arith, past, end, size)) c.node_count-node-end.ensures.known.problem.candidates_each c.loop-node.invariant.0

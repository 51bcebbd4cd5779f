use Rattle.std.proofs.Common.{◌≡◌, ◌∙◌, ◌+◌, ◌*◌, ap, arith, subst}
use Rattle.std.specs.Prelude.{slice_index}
use Rattle.xdg_graph.specs.Edges.{edge_labels}
use Rattle.xdg_rules.specs.Bounds.{sum_below}
use Rattle.xdg_engine.proofs.Totals.{label_free, label_more, label_sum}
use Rattle.xdg_engine.proofs.least.mother_cost.Goals as goal

pub loop-label-preserved-then-cost-eq0 : goal.loop-label-preserved-then-cost-eq0
loop-label-preserved-then-cost-eq0 c = (label_free c.args.store.now.parts c.args.store.now.now c.args.dim.0 c.args.mother.0 c.loop-label.label c.args.row.now c.loop-label.total c.if-cost-eq0.true c.loop-label.invariant.0, (let most = c.loop-label.invariant.1 in omega (arith, most)))

pub loop-label-preserved : goal.loop-label-preserved
loop-label-preserved c = (
  ap (λ n. c.loop-label.total + n) (c.together-total.ensures.exact ∙ ap (λ n. slice_index c.args.row.now c.loop-label.label * n) c.len-edges.ensures.value)
      ∙ label_more c.args.store.now.parts c.args.store.now.now c.args.dim.0 c.args.mother.0 c.loop-label.label c.args.row.now c.loop-label.total c.daughters_by.result c.len-edges.ensures.nodes c.daughters_by.ensures.exact c.loop-label.invariant.0,
  (let most = c.loop-label.invariant.1 in let small = c.together-total.ensures.small in omega (arith, most, small)),
)

pub returns-clause-exact : goal.returns-clause-exact
returns-clause-exact c =
    let count : c.loop-label.label ≡ edge_labels c.args.store.now.parts c.args.dim.0 = (let past = c.loop-label-test.false in let end = c.loop-label.auto.label-end in let size = c.labels_of-label-end.ensures.count in omega (arith, past, end, size)) in
    subst (λ k. c.loop-label.total ≡ sum_below (label_sum c.args.store.now.parts c.args.store.now.now c.args.row.now c.args.dim.0 c.args.mother.0) k) count c.loop-label.invariant.0

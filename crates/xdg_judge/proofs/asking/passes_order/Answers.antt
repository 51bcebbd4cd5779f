use Rattle.std.proofs.Common.{◌≡◌, true, arith}
use Rattle.std.specs.Prelude.{slice_index}
use Rattle.xdg_problem.specs.Arguments.{first_dim, attr_of, attr_place, truth_of, order_of}
use Rattle.xdg_problem.specs.Asking.{IsInItem}
use Rattle.xdg_problem.specs.Paths.{edges_on}
use Rattle.xdg_judge.proofs.Asked.{order_end, ordered_same, value_same}
use Rattle.xdg_judge.proofs.Guards.{far_first, far_second}
use Rattle.xdg_judge.proofs.asking.passes_order.Goals as goal

pub returns : goal.returns
returns c =
    let parts = c.args.view.now.parts.now in
    let group = c.args.view.now.group.now in
    let analysis = c.args.view.now.analysis.now in
    let dim = first_dim group in
    let own = slice_index analysis.attrs (attr_place parts dim c.args.u (attr_of group 0)) in
    let late = c.if-x-y.false in
    order_end c.is_ordered.result (λ label. IsInItem (edges_on dim analysis.edges) (truth_of group.truths 0 ≡ true) own c.args.u label c.args.x) (λ label. IsInItem (edges_on dim analysis.edges) (truth_of group.truths 0 ≡ true) own c.args.u label c.args.y) group.order c.args.x c.args.y (λ h. omega (arith, late, h))
    (ordered_same c.is_ordered.result (edges_on dim analysis.edges) c.truth_of-yields.result (truth_of group.truths 0) c.value_of-own.result own c.args.u c.args.x c.args.y c.as_slice.result.now group.order c.truth_of-yields.ensures
    (value_same parts analysis.attrs c.args.view.now.first_dim dim c.args.u c.attr_of.result (attr_of group 0) c.value_of-own.result c.value_of-own.ensures c.requires.view.first_is c.attr_of.ensures)
    c.as_slice.ensures c.is_ordered.ensures)

pub returns-then-not-is_near : goal.returns-then-not-is_near
returns-then-not-is_near c = far_first (edges_on (first_dim c.args.view.now.group.now) c.args.view.now.analysis.now.edges) (truth_of c.args.view.now.group.now.truths 0 ≡ true) (slice_index c.args.view.now.analysis.now.attrs (attr_place c.args.view.now.parts.now (first_dim c.args.view.now.group.now) c.args.u (attr_of c.args.view.now.group.now 0))) c.args.u c.args.x c.args.y (order_of c.args.view.now.group.now) c.if-not-is_near.ensures

pub returns-then-not-is_near-2 : goal.returns-then-not-is_near-2
returns-then-not-is_near-2 c = far_second (edges_on (first_dim c.args.view.now.group.now) c.args.view.now.analysis.now.edges) (truth_of c.args.view.now.group.now.truths 0 ≡ true) (slice_index c.args.view.now.analysis.now.attrs (attr_place c.args.view.now.parts.now (first_dim c.args.view.now.group.now) c.args.u (attr_of c.args.view.now.group.now 0))) c.args.u c.args.x c.args.y (order_of c.args.view.now.group.now) c.if-not-is_near-2.ensures

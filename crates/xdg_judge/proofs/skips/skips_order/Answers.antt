use Rattle.std.specs.Prelude.{slice_index}
use Rattle.xdg_problem.specs.Arguments.{first_dim, attr_of, attr_place, truth_of}
use Rattle.xdg_problem.specs.Paths.{edges_on}
use Rattle.xdg_judge.proofs.Asked.{value_same}
use Rattle.xdg_judge.proofs.Skipping.{settled_same}
use Rattle.xdg_judge.proofs.skips.skips_order.Goals as goal

pub returns : goal.returns
returns c =
    let parts = c.args.view.now.parts.now in
    let group = c.args.view.now.group.now in
    let analysis = c.args.view.now.analysis.now in
    let dim = first_dim group in
    let own = slice_index analysis.attrs (attr_place parts dim c.args.u (attr_of group 0)) in
    λ t x y lx ly. settled_same (edges_on dim analysis.edges) c.truth_of-yields.result (truth_of group.truths 0) c.value_of-own.result own c.args.u x y c.as_slice.result.now group.order c.truth_of-yields.ensures
    (value_same parts analysis.attrs c.args.view.now.first_dim dim c.args.u c.attr_of.result (attr_of group 0) c.value_of-own.result c.value_of-own.ensures c.requires.view.first_is c.attr_of.ensures)
    c.as_slice.ensures (c.settles.ensures t x y lx ly)

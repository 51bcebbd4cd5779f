use Rattle.std.proofs.Common.{◌≡◌, ◌≤◌, true, length, get_or, arith}
use Rattle.std.proofs.lemmas.List.{get_or_default}
use Rattle.xdg_problem.specs.Arguments.{first_dim}
use Rattle.xdg_problem.specs.Asking.{IsInItem}
use Rattle.xdg_problem.specs.Paths.{edges_on}
use Rattle.xdg_problem.specs.Places.{nodes}
use Rattle.xdg_judge.proofs.Asked.{zero_label}
use Rattle.xdg_judge.proofs.Skipping.{settled_start, settled_more, settled_end}
use Rattle.xdg_judge.proofs.skips.settles.Goals as goal

pub loop-label-init : goal.loop-label-init
loop-label-init c = settled_start (λ label x. IsInItem (edges_on (first_dim c.args.view.now.group.now) c.args.view.now.analysis.now.edges) (c.args.yields ≡ true) c.args.own c.args.u label x) c.args.labels.now (nodes c.args.view.now.parts.now)

pub loop-label-preserved : goal.loop-label-preserved
loop-label-preserved c =
    let newest = get_or c.args.labels.now c.loop-label.label-index zero_label in
    settled_more (λ label x. IsInItem (edges_on (first_dim c.args.view.now.group.now) c.args.view.now.analysis.now.edges) (c.args.yields ≡ true) c.args.own c.args.u label x) c.args.labels.now (nodes c.args.view.now.parts.now) c.loop-label.label-index c.loop-label.bound c.in-Some.next newest c.loop-label-test.true (get_or_default c.args.labels.now c.loop-label.label-index zero_label newest c.loop-label-test.true) c.loop-label.invariant c.in-Some.ensures

pub returns : goal.returns
returns c = λ t x y lx ly. settled_end (λ label x. IsInItem (edges_on (first_dim c.args.view.now.group.now) c.args.view.now.analysis.now.edges) (c.args.yields ≡ true) c.args.own c.args.u label x) c.args.labels.now (nodes c.args.view.now.parts.now) c.loop-label.label-index c.loop-label.bound x y c.loop-label.invariant (let l : length c.args.labels.now ≤ c.loop-label.label-index = omega arith in l) lx ly

use Rattle.std.proofs.Common.{subst}
use Rattle.std.specs.Prelude.{IsTrue, ◌↔◌, Contains, nat_le, slice_index}
use Rattle.xdg_problem.specs.declared.conditions.Condition.TheVariants as conditions
use Rattle.xdg_problem.specs.Arguments.{first_dim}
use Rattle.xdg_problem.specs.Features.{in_row, out_row}
use Rattle.xdg_problem.specs.Paths.{edges_on}
use Rattle.xdg_problem.specs.Vectors.{entry_places}
use Rattle.xdg_judge.specs.Searching.{IsSearched, tuple_for}
use Rattle.xdg_judge.specs.Verdicts.{AsksHere}
use Rattle.xdg_judge.proofs.Asked.{arm}
use Rattle.xdg_judge.proofs.Tallies.{at_most_one, tallied}
use Rattle.xdg_judge.proofs.asking.passes.Goals as goal

pub returns-in-Order : goal.returns-in-Order
returns-in-Order c =
    arm (λ k. IsTrue c.passes_order.result ↔ AsksHere c.args.view.now.parts.now c.args.view.now.group.now c.args.view.now.analysis.now k (tuple_for k c.args.u c.args.x c.args.y)) c.args.condition conditions.Order c.in-Order.is c.passes_order.ensures

pub returns-in-Between : goal.returns-in-Between
returns-in-Between c =
    arm (λ k. IsTrue c.passes_between.result ↔ AsksHere c.args.view.now.parts.now c.args.view.now.group.now c.args.view.now.analysis.now k (tuple_for k c.args.u c.args.x c.args.y)) c.args.condition conditions.Between c.in-Between.is c.passes_between.ensures

pub returns-in-Govern : goal.returns-in-Govern
returns-in-Govern c =
    arm (λ k. IsTrue c.passes_govern.result ↔ AsksHere c.args.view.now.parts.now c.args.view.now.group.now c.args.view.now.analysis.now k (tuple_for k c.args.u c.args.x c.args.y)) c.args.condition conditions.Govern c.in-Govern.is c.passes_govern.ensures

pub returns-in-Mothers : goal.returns-in-Mothers
returns-in-Mothers c =
    let is = tallied c.args.condition conditions.Mothers (edges_on (first_dim c.args.view.now.group.now) c.args.view.now.analysis.now.edges) c.args.counts.now 0 c.args.u c.counted.result c.in-Mothers.is c.requires.counts c.counted.ensures in
    arm (λ k. IsTrue (nat_le c.counted.result 1) ↔ AsksHere c.args.view.now.parts.now c.args.view.now.group.now c.args.view.now.analysis.now k (tuple_for k c.args.u c.args.x c.args.y)) c.args.condition conditions.Mothers c.in-Mothers.is (at_most_one c.counted.result _ is)

pub returns-in-Pair : goal.returns-in-Pair
returns-in-Pair c =
    let is = tallied c.args.condition conditions.Pair (edges_on (first_dim c.args.view.now.group.now) c.args.view.now.analysis.now.edges) c.args.counts.now c.args.u c.args.x c.counted-in-Pair.result c.in-Pair.is c.requires.counts c.counted-in-Pair.ensures in
    arm (λ k. IsTrue (nat_le c.counted-in-Pair.result 1) ↔ AsksHere c.args.view.now.parts.now c.args.view.now.group.now c.args.view.now.analysis.now k (tuple_for k c.args.u c.args.x c.args.y)) c.args.condition conditions.Pair c.in-Pair.is (at_most_one c.counted-in-Pair.result _ is)

pub returns-in-InCount : goal.returns-in-InCount
returns-in-InCount c =
    let is = tallied c.args.condition conditions.InCount (edges_on (first_dim c.args.view.now.group.now) c.args.view.now.analysis.now.edges) c.args.counts.now c.args.u c.args.x c.counted-in-InCount.result c.in-InCount.is c.requires.counts c.counted-in-InCount.ensures in
    arm (λ k. IsTrue c.passes_in.result ↔ AsksHere c.args.view.now.parts.now c.args.view.now.group.now c.args.view.now.analysis.now k (tuple_for k c.args.u c.args.x c.args.y)) c.args.condition conditions.InCount c.in-InCount.is
    (subst (λ n. IsTrue c.passes_in.result ↔ Contains (in_row c.args.view.now.group.now c.args.u (slice_index (entry_places c.args.view.now.parts.now.candidates c.args.view.now.analysis.now.entries) c.args.u) c.args.x) n) is c.passes_in.ensures)

pub returns-in-OutCount : goal.returns-in-OutCount
returns-in-OutCount c =
    let is = tallied c.args.condition conditions.OutCount (edges_on (first_dim c.args.view.now.group.now) c.args.view.now.analysis.now.edges) c.args.counts.now c.args.u c.args.x c.counted-in-OutCount.result c.in-OutCount.is c.requires.counts c.counted-in-OutCount.ensures in
    arm (λ k. IsTrue c.passes_out.result ↔ AsksHere c.args.view.now.parts.now c.args.view.now.group.now c.args.view.now.analysis.now k (tuple_for k c.args.u c.args.x c.args.y)) c.args.condition conditions.OutCount c.in-OutCount.is
    (subst (λ n. IsTrue c.passes_out.result ↔ Contains (out_row c.args.view.now.group.now c.args.u (slice_index (entry_places c.args.view.now.parts.now.candidates c.args.view.now.analysis.now.entries) c.args.u) c.args.x) n) is c.passes_out.ensures)

pub returns-in-Roots : goal.returns-in-Roots
returns-in-Roots c = absurd (subst IsSearched c.in-Roots.is c.requires.searched)

pub returns-in-Rule : goal.returns-in-Rule
returns-in-Rule c = absurd (subst IsSearched c.in-Rule.is c.requires.searched)

pub returns-in-Bound : goal.returns-in-Bound
returns-in-Bound c = absurd (subst IsSearched c.in-Bound.is c.requires.searched)

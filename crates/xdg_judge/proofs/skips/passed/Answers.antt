use Rattle.std.proofs.Common.{◌≡◌, ◌≤◌, ◌∙◌, sym, true, arith}
use Rattle.std.proofs.lemmas.Bool.{false≢true}
use Rattle.xdg_problem.specs.Arguments.{first_dim}
use Rattle.xdg_problem.specs.Asking.{IsInItem}
use Rattle.xdg_problem.specs.Paths.{edges_on}
use Rattle.xdg_problem.specs.Places.{nodes}
use Rattle.xdg_judge.proofs.Skipping.{passed_here, passed_over, passed_end, passed_none}
use Rattle.xdg_judge.proofs.skips.passed.Goals as goal
use Rattle.xdg_judge.proofs.skips.passed.Goals.{then-is_in_item+else-x-bound, else-is_in_item}

pub returns-then-has_no_daughter : goal.returns-then-has_no_daughter
returns-then-has_no_daughter c = passed_none (edges_on (first_dim c.args.view.now.group.now) c.args.view.now.analysis.now.edges) (c.args.yields ≡ true) c.args.own c.args.u c.args.label c.args.bound (nodes c.args.view.now.parts.now) (λ e. c.if-own-from.true (e ∙ sym c.from.ensures)) (c.has_no_daughter.ensures c.if-has_no_daughter.true)

pub loop-x-preserved : goal.loop-x-preserved
loop-x-preserved c = elim c.if-is_in_item.branch [
  | then-is_in_item+else-x-bound w ↦ rw w.next-is (passed_here (λ x. IsInItem (edges_on (first_dim c.args.view.now.group.now) c.args.view.now.analysis.now.edges) (c.args.yields ≡ true) c.args.own c.args.u c.args.label x) c.args.bound c.loop-x.next c.loop-x.x (let l : c.args.bound ≤ c.loop-x.x = w.if-x-bound.false in l) c.loop-x.invariant)
  | else-is_in_item w ↦ rw w.next-is (passed_over (λ x. IsInItem (edges_on (first_dim c.args.view.now.group.now) c.args.view.now.analysis.now.edges) (c.args.yields ≡ true) c.args.own c.args.u c.args.label x) c.args.bound c.loop-x.next c.loop-x.x (λ i. false≢true (sym w.if-is_in_item.false ∙ c.is_in_item.ensures.1 i)) c.loop-x.invariant)
]

pub returns : goal.returns
returns c = passed_end (λ x. IsInItem (edges_on (first_dim c.args.view.now.group.now) c.args.view.now.analysis.now.edges) (c.args.yields ≡ true) c.args.own c.args.u c.args.label x) c.args.bound c.loop-x.next c.loop-x.x c.len-size.result (nodes c.args.view.now.parts.now) c.loop-x.invariant (let l : c.len-size.result ≤ c.loop-x.x = omega arith in l) c.len-size.ensures

use Rattle.std.proofs.Common.{◌≡◌, true}
use Rattle.xdg_problem.specs.Arguments.{first_dim}
use Rattle.xdg_problem.specs.Asking.{IsInItem}
use Rattle.xdg_problem.specs.Paths.{edges_on}
use Rattle.xdg_judge.proofs.Skipping.{Passed}
use Rattle.xdg_judge.proofs.skips.passed.Given as goal

abbrev pub invariant-loop-x : goal.invariant-loop-x
invariant-loop-x l = Passed (λ x. IsInItem (edges_on (first_dim l.view.group.now) l.view.analysis.now.edges) (l.yields ≡ true) l.own l.u l.label x) l.bound l.next l.x

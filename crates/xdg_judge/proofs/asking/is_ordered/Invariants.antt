use Rattle.std.proofs.Common.{◌≡◌, true}
use Rattle.xdg_problem.specs.Arguments.{first_dim}
use Rattle.xdg_problem.specs.Asking.{IsInItem}
use Rattle.xdg_problem.specs.Paths.{edges_on}
use Rattle.xdg_judge.proofs.Asked.{Ordering}
use Rattle.xdg_judge.proofs.asking.is_ordered.Given as goal

abbrev pub invariant-loop-label : goal.invariant-loop-label
invariant-loop-label l = Ordering (λ label. IsInItem (edges_on (first_dim l.view.group.now) l.view.analysis.now.edges) (l.yields ≡ true) l.own l.u label l.x) (λ label. IsInItem (edges_on (first_dim l.view.group.now) l.view.analysis.now.edges) (l.yields ≡ true) l.own l.u label l.y) l.labels l.label-index l.seen

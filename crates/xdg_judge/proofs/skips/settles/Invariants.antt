use Rattle.std.proofs.Common.{◌≡◌, true}
use Rattle.xdg_problem.specs.Arguments.{first_dim}
use Rattle.xdg_problem.specs.Asking.{IsInItem}
use Rattle.xdg_problem.specs.Paths.{edges_on}
use Rattle.xdg_problem.specs.Places.{nodes}
use Rattle.xdg_judge.proofs.Skipping.{Settled}
use Rattle.xdg_judge.proofs.skips.settles.Given as goal

abbrev pub invariant-loop-label : goal.invariant-loop-label
invariant-loop-label l = Settled (λ label x. IsInItem (edges_on (first_dim l.view.group.now) l.view.analysis.now.edges) (l.yields ≡ true) l.own l.u label x) l.labels (nodes l.view.parts.now) l.label-index l.bound

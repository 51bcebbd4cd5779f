use Rattle.std.proofs.Common.{◌≡◌, drop}
use Rattle.xdg_problem.specs.Costs.{label_cost_in}
use Rattle.xdg_problem.proofs.costs.Costs.of_label.Given as goal

abbrev pub invariant-loop-one : goal.invariant-loop-one
invariant-loop-one l = label_cost_in (drop l.one-index l.one-items) l.dim.0 l.label.0 ≡ label_cost_in l.self.labels l.dim.0 l.label.0

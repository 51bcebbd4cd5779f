use Rattle.std.proofs.Common.{◌≡◌, ℕ, ◌↔◌, ◌-◌, ◌*◌, length}
use Rattle.std.specs.List.{flat_map}
use Rattle.xdg_facts.specs.Fits.{Fits}
use Rattle.xdg_problem.specs.Places.{below, numbers_from}
use Rattle.xdg_problem.specs.Values.{value_counts}
use Rattle.xdg_problem.proofs.fitting.dim_fits.Given as goal

abbrev pub invariant-loop-node : goal.invariant-loop-node
invariant-loop-node l = record {
  left : length l.rest ≡ (l.nodes - l._node) * length l.plan.attrs;
  rest : Fits (flat_map (λ (node : ℕ). value_counts l.plan) (numbers_from l._node (l.nodes - l._node))) l.rest ↔ Fits (flat_map (λ (node : ℕ). value_counts l.plan) (below l.nodes)) l.values;
}

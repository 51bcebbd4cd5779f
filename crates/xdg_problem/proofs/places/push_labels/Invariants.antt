use Rattle.std.proofs.Common.{◌≡◌, ◌++◌, ℕ}
use Rattle.std.specs.List.{flat_map}
use Rattle.xdg_problem.specs.Places.{below, places_out}
use Rattle.xdg_problem.proofs.places.push_labels.Given as goal

abbrev pub invariant-loop-label : goal.invariant-loop-label
invariant-loop-label l = l.out ≡ l.initial.out ++ flat_map (λ (label : ℕ). places_out l.dim l.nodes l.mother label) (below l.label)

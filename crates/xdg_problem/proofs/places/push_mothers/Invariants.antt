use Rattle.std.proofs.Common.{◌≡◌, ◌++◌, ℕ}
use Rattle.std.specs.List.{flat_map}
use Rattle.xdg_problem.specs.Places.{below, places_out}
use Rattle.xdg_problem.proofs.places.push_mothers.Given as goal

abbrev pub invariant-loop-mother : goal.invariant-loop-mother
invariant-loop-mother l = l.out ≡ l.initial.out ++ flat_map (λ (mother : ℕ). flat_map (λ (label : ℕ). places_out l.dim l.nodes mother label) (below l.labels)) (below l.mother)

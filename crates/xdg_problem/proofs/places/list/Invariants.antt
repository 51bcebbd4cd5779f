use Rattle.std.proofs.Common.{◌≡◌, ◌++◌, drop}
use Rattle.xdg_problem.specs.Places.{places, places_from}
use Rattle.xdg_problem.proofs.places.list.Given as goal

abbrev pub invariant-loop-dim : goal.invariant-loop-dim
invariant-loop-dim l = l.out ++ places_from l.dim l.nodes (drop l.dim l.parts.dims) ≡ places l.parts

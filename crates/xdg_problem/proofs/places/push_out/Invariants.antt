use Rattle.std.proofs.Common.{◌≡◌, ◌++◌}
use Rattle.xdg_problem.specs.Places.{places_out}
use Rattle.xdg_problem.proofs.places.push_out.Given as goal

abbrev pub invariant-loop-daughter : goal.invariant-loop-daughter
invariant-loop-daughter l = l.out ≡ l.initial.out ++ places_out l.dim l.daughter l.mother l.label

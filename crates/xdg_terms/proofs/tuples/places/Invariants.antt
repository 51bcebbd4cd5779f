use Rattle.std.proofs.Common.{◌≡◌, [], drop}
use Rattle.xdg_terms.specs.Built.{places_behind, constants_each}
use Rattle.xdg_terms.proofs.tuples.places.Given as goal

abbrev pub invariant-loop-i : goal.invariant-loop-i
invariant-loop-i l = places_behind l.found (constants_each (drop l.i l.fields)) (drop l.i l.names) ≡ places_behind [] (constants_each l.fields) l.names

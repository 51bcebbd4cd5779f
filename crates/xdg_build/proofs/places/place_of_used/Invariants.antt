use Rattle.std.proofs.Common.{◌≡◌, ◌+◌, drop}
use Rattle.xdg_build.specs.Grammars.{place_of_used}
use Rattle.xdg_build.proofs.places.place_of_used.Given as goal

abbrev pub invariant-loop-at : goal.invariant-loop-at
invariant-loop-at l = l.at + place_of_used (drop l.at l.used) l.place ≡ place_of_used l.used l.place

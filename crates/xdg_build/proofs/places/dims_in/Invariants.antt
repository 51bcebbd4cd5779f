use Rattle.std.proofs.Common.{◌≡◌, map, take}
use Rattle.xdg_build.specs.Grammars.{place_of_used}
use Rattle.xdg_build.proofs.places.dims_in.Given as goal

abbrev pub invariant-loop-place : goal.invariant-loop-place
invariant-loop-place l = l.made ≡ map (λ k. record { 0 = place_of_used l.used k }) (take l.place-index l.places)

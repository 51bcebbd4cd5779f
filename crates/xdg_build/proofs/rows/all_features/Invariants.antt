use Rattle.std.proofs.Common.{◌≡◌, map, take}
use Rattle.xdg_build.specs.Rows.{features_by_number, AreKept}
use Rattle.xdg_build.proofs.rows.all_features.Given as goal

abbrev pub invariant-loop-numbers : goal.invariant-loop-numbers
invariant-loop-numbers l = (l.made ≡ map (features_by_number l.packed.entries l.dim l.places) (take l.numbers-index l.candidates)) × AreKept l.packed.entries l.dim l.places l.kept.entries

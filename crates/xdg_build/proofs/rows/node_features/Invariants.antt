use Rattle.std.proofs.Common.{◌≡◌, take}
use Rattle.xdg_build.specs.Rows.{features_by_number, AreKept}
use Rattle.xdg_build.proofs.rows.node_features.Given as goal

abbrev pub invariant-loop-no : goal.invariant-loop-no
invariant-loop-no l = (l.made ≡ features_by_number l.packed.entries l.dim l.places (take l.no-index l.numbers)) × AreKept l.packed.entries l.dim l.places l.kept.entries

use Rattle.std.proofs.Common.{◌≡◌, map, take}
use Rattle.xdg_build.specs.Tables.{entry_says}
use Rattle.xdg_build.proofs.feats.row.Given as goal

abbrev pub invariant-loop-no : goal.invariant-loop-no
invariant-loop-no l = l.made ≡ map (entry_says l.packed.entries l.dim l.place l.number) (take l.no-index l.candidates)

use Rattle.std.proofs.Common.{◌≡◌, take}
use Rattle.xdg_io.specs.Memory.{listed_files}
use Rattle.xdg_io.proofs.memory_shelf.copies.Given as goal

abbrev pub invariant-loop-name : goal.invariant-loop-name
invariant-loop-name l = l.copies ≡ listed_files (take l.name-index l.files)

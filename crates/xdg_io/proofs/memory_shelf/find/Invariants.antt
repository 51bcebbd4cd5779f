use Rattle.std.proofs.Common.{◌≡◌, drop}
use Rattle.xdg_io.specs.Memory.{file_of}
use Rattle.xdg_io.proofs.memory_shelf.find.Given as goal

abbrev pub invariant-loop-file : goal.invariant-loop-file
invariant-loop-file l = file_of (drop l.file-index l.files) l.name ≡ file_of l.files l.name

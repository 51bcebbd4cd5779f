use Rattle.std.proofs.Common.{◌≡◌, take}
use Rattle.xdg_packed.proofs.table.copy_of.Given as goal

abbrev pub invariant-loop-field : goal.invariant-loop-field
invariant-loop-field l = l.made ≡ take l.field-index l.field-items

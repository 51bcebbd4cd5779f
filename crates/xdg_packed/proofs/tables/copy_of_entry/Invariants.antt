use Rattle.std.proofs.Common.{◌≡◌, take}
use Rattle.xdg_packed.proofs.tables.copy_of_entry.Given as goal

abbrev pub invariant-loop-fields : goal.invariant-loop-fields
invariant-loop-fields l = l.made ≡ take l.fields-index l.entry

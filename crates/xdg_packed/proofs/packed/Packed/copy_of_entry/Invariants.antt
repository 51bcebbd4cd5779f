use Rattle.std.proofs.Common.{◌≡◌, [], get_or, map, take}
use Rattle.xdg_packed.specs.Tables.{records}
use Rattle.xdg_packed.proofs.packed.Packed.copy_of_entry.Given as goal

abbrev pub invariant-loop-table : goal.invariant-loop-table
invariant-loop-table l = l.made ≡ map (λ table. get_or (records table) l.number []) (take l.table-index l.table-items)

use Rattle.std.proofs.Common.{◌≡◌, ◌++◌, drop}
use Rattle.xdg_packed.specs.Spelling as spec
use Rattle.xdg_packed.specs.Tables.{key, places_at}
use Rattle.xdg_packed.proofs.tables.Tables.key.Given as goal

abbrev pub invariant-loop-table : goal.invariant-loop-table
invariant-loop-table l = l.out ++ spec.numbers (places_at (drop l.table-index l.table-items) l.number) ≡ key l.self.tables.items l.number

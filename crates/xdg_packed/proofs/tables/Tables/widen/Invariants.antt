use Rattle.std.proofs.Common.{◌≡◌, ℕ, length, get_or}
use Rattle.xdg_packed.specs.Tables.{no_table, AreTables}
use Rattle.xdg_packed.proofs.tables.Tables.widen.Given as goal

abbrev pub invariant-loop : goal.invariant-loop
invariant-loop l =
    AreTables l.self.tables.items l.self.spellings.items × (length l.self.tables.items ≡ l.counter) × ((dim : ℕ) → get_or l.self.tables.items dim no_table ≡ get_or l.fn.self.tables.items dim no_table)

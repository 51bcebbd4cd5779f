use Rattle.std.proofs.Common.{◌≡◌, map, take}
use Rattle.xdg_packed.specs.Lexicon.{columns}
use Rattle.xdg_packed.specs.Tables.{records, AreTables}
use Rattle.xdg_packed.proofs.tables.tables_of.Given as goal

abbrev pub invariant-loop-entry : goal.invariant-loop-entry
invariant-loop-entry l = AreTables l.made.tables.items l.made.spellings.items × (map records l.made.tables.items ≡ columns (take l.entry-index l.entries))

use Rattle.std.proofs.Common.{map, take}
use Rattle.xdg_packed.specs.Lexicon.{CountsRows}
use Rattle.xdg_packed.specs.Tables.{records}
use Rattle.xdg_packed.proofs.tables.Tables.rows.Given as goal

abbrev pub invariant-loop-table : goal.invariant-loop-table
invariant-loop-table l = CountsRows (map records (take l.table-index l.table-items)) l.rows

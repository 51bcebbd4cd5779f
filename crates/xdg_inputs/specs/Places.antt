-- Where a fault stands in a text.
use Rattle.std.specs.Prelude.{ℕ, List}
use Rattle.xdg_base.specs.declared.faults.Fault.{Fault}
use Rattle.xdg_base.specs.declared.places.LineColumn.{LineColumn}
use Rattle.xdg_base.specs.Places.{line_of, column_of}

-- the line and the column of a fault
abbrev pub line_column : List ℕ → Fault → LineColumn
line_column text refused = record { line = line_of text refused.at; column = column_of text refused.at }

-- What the table of a grammar gives.
use Rattle.std.specs.Prelude.{List}
use Rattle.xdg_types.specs.Answers.{HasTable}
use Rattle.xdg_types.specs.Parts.{Statement, dimensions}
use Rattle.xdg_types.specs.Table.{Table}
use Rattle.xdg_types.proofs.Made.{names_made}
use Rattle.xdg_principles.specs.Made.{HasDims}

-- its dimensions have the names of those of the text
pub has_dims : (statements : List Statement) (table : Table) → HasTable statements table → HasDims statements table
has_dims statements table has = names_made has.names (dimensions statements) table.dims has.table.dims

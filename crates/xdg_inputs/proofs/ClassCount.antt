-- A checked grammar has as many classes as its text.
use Rattle.std.proofs.Common.{◌≡◌, length, Ok}
use Rattle.xdg_ast.specs.declared.grammar.Grammar.{Grammar}
use Rattle.xdg_types.specs.Table.{Table}
use Rattle.xdg_classes.specs.Definitions.{classes}
use Rattle.xdg_check.specs.Answers as check
use Rattle.xdg_check.specs.Checked.{Parts}
use Rattle.xdg_check.proofs.Placing.{as_long}

pub as_many_classes : (tree : Grammar) (table : Table) (checked : Parts) → check.Tells tree.statements table (Ok checked) → length checked.classes ≡ length (classes tree.statements)
as_many_classes tree table checked told = as_long (classes tree.statements) (classes tree.statements) checked.classes told.1.classes

-- Which texts are read as grammars, and with which fault the others are refused.
use Rattle.std.specs.Prelude.{ℕ, List, Result}
use Rattle.xdg_base.specs.declared.faults.Fault.{Fault}
use Rattle.xdg_base.specs.declared.faults.Stop.{Stop}
use Rattle.xdg_base.specs.Told.{TellsOf}
use Rattle.xdg_ast.specs.declared.grammar.Grammar.{Grammar}
use Rattle.xdg_ast.specs.Derives.{grammars}
use Rattle.xdg_parse.specs.Outcome as read

-- a text is no grammar text: it spells no tokens, or else its tokens derive no grammar
abbrev pub IsUnreadable : List ℕ → Fault → Type 0
IsUnreadable = read.IsUnreadable grammars

-- the text is read as the tree, or refused for the fault
abbrev pub IsReadAs : List ℕ → Result Grammar Fault → Type 0
IsReadAs = read.IsRead grammars

-- the tree, or the fault; want of memory tells nothing
abbrev pub TellsTree : List ℕ → Result Grammar Stop → Type 0
TellsTree text = TellsOf (IsReadAs text)

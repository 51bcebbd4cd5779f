-- What a rules text stands for, and with which fault a text is refused.
use Rattle.std.specs.Prelude.{ℕ, List, Result}
use Rattle.xdg_base.specs.declared.faults.Fault.{Fault}
use Rattle.xdg_base.specs.declared.faults.Stop.{Stop}
use Rattle.xdg_base.specs.Told.{TellsOf}
use Rattle.xdg_ast.specs.Lexemes.{Lexeme}
use Rattle.xdg_ast.specs.Derives.{Family, SpellsOf}
use Rattle.xdg_parse.specs.Outcome as read
use Rattle.xdg_formula.specs.declared.tree.Rules.{Rules}
use Rattle.xdg_formula.specs.Rules.{rules}
use Rattle.xdg_formula.specs.Words.{seen_all}

-- ---- tokens

-- what tokens stand for that are seen as in rules
abbrev pub seen_rules : Family Rules
seen_rules n ts tree = (rules n).means ts tree.rules

-- what tokens stand for
abbrev pub rules_of : Family Rules
rules_of n ts tree = (rules n).means (seen_all ts) tree.rules

-- a call on tokens that are seen as in rules gives the rules that they stand for, or their first fault, unless memory ran out
abbrev pub TellsSeen : List Lexeme → ℕ → Result Rules Stop → Type 0
TellsSeen ts end = TellsOf (read.IsParsed seen_rules ts end)

-- ---- bytes

-- the bytes spell tokens that stand for the tree, with at most 64 brackets open at a time, and its places are those of the tokens
abbrev pub Reads : List ℕ → Rules → Type 0
Reads = SpellsOf rules_of

-- bytes are no rules text: they spell no tokens, or else their tokens stand for no tree
abbrev pub IsUnreadable : List ℕ → Fault → Type 0
IsUnreadable = read.IsUnreadable rules_of

-- the tree that the bytes stand for, or their first fault
abbrev pub IsAnswer : List ℕ → Result Rules Fault → Type 0
IsAnswer = read.IsRead rules_of

-- a call answers so, unless memory ran out
abbrev pub Tells : List ℕ → Result Rules Stop → Type 0
Tells bytes = TellsOf (IsAnswer bytes)

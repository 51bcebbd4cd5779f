-- What reading answers, from tokens and from bytes.
use Rattle.std.specs.Prelude.{ℕ, List, length, Result, Ok, Err}
use Rattle.xdg_base.specs.declared.faults.Fault.{Fault}
use Rattle.xdg_base.specs.declared.faults.Stop.{Stop}
use Rattle.xdg_base.specs.Told.{TellsOf}
use Rattle.xdg_ast.specs.Lexemes.{Lexeme}
use Rattle.xdg_ast.specs.Tokenizes.{Spells}
use Rattle.xdg_ast.specs.declared.grammar.Grammar.{Grammar}
use Rattle.xdg_ast.specs.Derives.{Family, DerivesWithin, IsRefused, SpellsOf, grammars}
use Rattle.xdg_lex.specs.Offends as tokens

-- ---- for any texts

-- what the tokens stand for with at most 64 open brackets, or the first fault of the tokens
abbrev pub IsParsed : {A : Type 0} → Family A → List Lexeme → ℕ → Result A Fault → Type 0
IsParsed means ts end (Ok x) = DerivesWithin means ts x
IsParsed means ts end (Err fault) = IsRefused means ts end fault

-- bytes are no text: they spell no tokens, or else their tokens stand for nothing
pub data IsUnreadable {A : Type 0} (means : Family A) (bytes : List ℕ) (refused : Fault) : Type 0 where
  no_tokens : tokens.IsRefused bytes refused → IsUnreadable means bytes refused
  no_tree : (ts : List Lexeme) → Spells bytes ts → IsRefused means ts (length bytes) refused → IsUnreadable means bytes refused

-- what the bytes stand for, or their first fault
abbrev pub IsRead : {A : Type 0} → Family A → List ℕ → Result A Fault → Type 0
IsRead means bytes (Ok x) = SpellsOf means bytes x
IsRead means bytes (Err fault) = IsUnreadable means bytes fault

-- ---- for grammar texts

-- the grammar that the tokens derive with at most 64 open brackets, or the first fault of the tokens
abbrev pub IsAnswer : List Lexeme → ℕ → Result Grammar Fault → Type 0
IsAnswer = IsParsed grammars

-- a call answers so, unless memory ran out
abbrev pub Tells : List Lexeme → ℕ → Result Grammar Stop → Type 0
Tells ts end = TellsOf (IsAnswer ts end)

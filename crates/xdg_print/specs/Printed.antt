-- A text that is written word by word and line by line.
use Rattle.std.specs.Prelude.{ℕ, Bool, true, false, if◌then◌else◌, List, [], ◌∷◌, ◌++◌, flat_map, Some, None}
use Rattle.xdg_ast.specs.declared.token.Kind.{Kind}
use Rattle.xdg_ast.specs.declared.token.Kind.TheVariants as k
use Rattle.xdg_ast.specs.declared.names.Name.{Name}
use Rattle.xdg_ast.specs.declared.names.Pair.{Pair}
use Rattle.xdg_ast.specs.declared.grammar.DimPartKind.{DimPartKind}
use Rattle.xdg_ast.specs.declared.grammar.StatementKind.TheVariants as s
use Rattle.xdg_ast.specs.declared.names.Spanned.{Spanned}
use Rattle.xdg_ast.specs.Words.{Word, mark}
use Rattle.xdg_ast.specs.Trees.{single, conjunction, disjunction, Phrase, name_word, pair_words}
use Rattle.xdg_ast.specs.Canon.{gap, spelling, Line, statement_lines}
use Rattle.xdg_print.specs.declared.printer.Printer.{Printer}

-- after one more word
unfoldable pub put_one : Word → Printer → Printer
put_one word p = record { text = p.text ++ (gap p.last word.kind ++ spelling word); last = Some word.kind }

-- after more words
abbrev pub put : List Word → Printer → Printer
put [] p = p
put (word ∷ words) p = put words (put_one word p)

-- after the indent of a line
unfoldable pub begun : List ℕ → Printer → Printer
begun indent p = record { text = p.text ++ indent; last = None }

-- after the end of a line
unfoldable pub ended : Printer → Printer
ended p = record { text = p.text ++ 10 ∷ []; last = None }

-- after more lines
abbrev pub put_lines : List Line → Printer → Printer
put_lines [] p = p
put_lines (line ∷ lines) p = put_lines lines (ended (put line.words (begun line.indent p)))

-- what stands before a member of a conjunction or a disjunction, and behind it
abbrev pub opening : Kind → Bool → Bool → List Word
opening sign first brackets = (if first then [] else mark sign ∷ []) ++ (if brackets then mark k.LeftParenthesis ∷ [] else [])

abbrev pub closing : Bool → List Word
closing brackets = if brackets then mark k.RightParenthesis ∷ [] else []

-- a phrase stands in brackets in a conjunction
abbrev pub is_joined : Phrase → Bool
is_joined phrase = elim phrase.form as (λ _. Bool) [ single ↦ false | conjunction ↦ true | disjunction ↦ true ]

-- and in a disjunction
abbrev pub is_disjoined : Phrase → Bool
is_disjoined phrase = elim phrase.form as (λ _. Bool) [ single ↦ false | conjunction ↦ false | disjunction ↦ true ]

abbrev pub name_pairs_words : List (Pair Name) → List Word
name_pairs_words pairs = flat_map (pair_words (λ name. name_word name ∷ [])) pairs

-- the lines of a dimension
abbrev pub dim_lines : Name → List (Spanned DimPartKind) → List Line
dim_lines name parts = statement_lines (s.DefDim name parts)

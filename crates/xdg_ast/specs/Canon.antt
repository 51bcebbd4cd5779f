-- The canonical text of a grammar.
use Rattle.std.specs.Prelude.{ℕ, Bool, ◌||◌, ◌&&◌, if◌then◌else◌, nat_lt, List, [], ◌∷◌, ◌++◌, map, flat_map, get_or, Option, Some, None, codes, decimal}
use Rattle.xdg_ast.specs.declared.token.Kind.{Kind}
use Rattle.xdg_ast.specs.declared.token.Kind.TheVariants as k
use Rattle.xdg_ast.specs.declared.names.Name.{Name}
use Rattle.xdg_ast.specs.declared.names.Pair.{Pair}
use Rattle.xdg_ast.specs.declared.names.Spanned.{Spanned}
use Rattle.xdg_ast.specs.declared.terms.TermKind.{TermKind}
use Rattle.xdg_ast.specs.declared.expressions.ExprKind.{ExprKind}
use Rattle.xdg_ast.specs.declared.grammar.ClassParam.{ClassParam}
use Rattle.xdg_ast.specs.declared.grammar.DimPartKind.{DimPartKind}
use Rattle.xdg_ast.specs.declared.grammar.DimPartKind.TheVariants as d
use Rattle.xdg_ast.specs.declared.grammar.StatementKind.{StatementKind}
use Rattle.xdg_ast.specs.declared.grammar.StatementKind.TheVariants as s
use Rattle.xdg_ast.specs.declared.grammar.Grammar.{Grammar}
use Rattle.xdg_base.specs.Spelling.{keywords, quoted}
use Rattle.xdg_ast.specs.Language.{Kinds, number, is, ◌or◌}
use Rattle.xdg_ast.specs.Grammar.{Params, params_of}
use Rattle.xdg_ast.specs.Words.{Word, mark}
use Rattle.xdg_ast.specs.Trees.{name_word, in_braces, pair_words, terms_words, term_words, type_words, expr_phrase}

-- ---- statements

-- a line of the text: how far it is indented, and its words
pub record Line : Type 0 where
  pub indent : List ℕ
  pub words : List Word

abbrev pub line : List Word → Line
line words = record { indent = []; words = words }

abbrev pub indented : List Word → Line
indented words = record { indent = codes "  "; words = words }

abbrev pub principle_words : List (Pair Name) → Option (List (Pair (Spanned TermKind))) → List Word
principle_words dims None = mark k.Dims ∷ in_braces (flat_map (pair_words (λ name. name_word name ∷ [])) dims)
principle_words dims (Some args) = mark k.Dims ∷ (in_braces (flat_map (pair_words (λ name. name_word name ∷ [])) dims) ++ mark k.Args ∷ terms_words [] args)

unfoldable pub part_words : DimPartKind → List Word
part_words (d.DefType name type) = mark k.DefType ∷ name_word name ∷ type_words type.kind
part_words (d.LabelType type) = mark k.DefLabelType ∷ type_words type.kind
part_words (d.AttrsType type) = mark k.DefAttrsType ∷ type_words type.kind
part_words (d.EntryType type) = mark k.DefEntryType ∷ type_words type.kind
part_words (d.Output name) = mark k.Output ∷ name_word name ∷ []
part_words (d.UseOutput name) = mark k.UseOutput ∷ name_word name ∷ []
part_words (d.UsePrinciple name dims args) = mark k.UsePrinciple ∷ name_word name ∷ in_braces (principle_words dims args)

abbrev pub preset_words : Option (Spanned TermKind) → List Word
preset_words None = []
preset_words (Some term) = mark k.Colon ∷ term_words [] term.kind

abbrev pub class_param_words : ClassParam → List Word
class_param_words param = name_word param.name ∷ preset_words param.preset

abbrev pub body_words : Params → Spanned ExprKind → List Word
body_words params expr = in_braces (expr_phrase params expr.kind).words

-- the words of a statement
unfoldable pub statement_words : StatementKind → List Word
statement_words (s.UseDim name) = mark k.UseDim ∷ name_word name ∷ []
statement_words (s.DefDim name parts) = mark k.DefDim ∷ name_word name ∷ in_braces (flat_map (λ part. part_words part.kind) parts)
statement_words (s.DefClass name params body) = mark k.DefClass ∷ name_word name ∷ (flat_map class_param_words params ++ body_words (params_of params) body)
statement_words (s.DefEntry body) = mark k.DefEntry ∷ body_words [] body

-- the lines of a statement: a dimension has one for each part
unfoldable pub statement_lines : StatementKind → List Line
statement_lines (s.DefDim name parts) =
    line (mark k.DefDim ∷ name_word name ∷ mark k.LeftBrace ∷ []) ∷ (map (λ part. indented (part_words part.kind)) parts ++ line (mark k.RightBrace ∷ []) ∷ [])
statement_lines (s.UseDim name) = line (statement_words (s.UseDim name)) ∷ []
statement_lines (s.DefClass name params body) = line (statement_words (s.DefClass name params body)) ∷ []
statement_lines (s.DefEntry body) = line (statement_words (s.DefEntry body)) ∷ []

-- ---- spelling

-- the text of a keyword or a sign
abbrev pub text_of : Kind → List ℕ
text_of kind = get_or ([] ∷ [] ∷ [] ∷ (keywords ++ map (λ sign. sign ∷ []) (codes "{}()[]:&|$#!?*+"))) (number kind) []

-- the text of a keyword, and nothing of a sign
abbrev pub keyword_text : Kind → List ℕ
keyword_text kind = if nat_lt (number kind) 26 then text_of kind else []

-- a word as it is written
unfoldable pub spelling : Word → List ℕ
spelling word = elim word.kind as (λ _. List ℕ) [
  | k.Name ↦ word.content
  | k.Quoted ↦ quoted word.content
  | k.Number ↦ decimal word.value
  | kind ↦ text_of kind
]

-- ---- spacing

-- no space stands behind these
abbrev pub is_tight_behind : Kinds
is_tight_behind = is k.LeftBrace or is k.LeftParenthesis or is k.LeftBracket or is k.Hash

-- and none before these
abbrev pub is_tight_before : Kinds
is_tight_before = is k.RightBrace or is k.RightParenthesis or is k.RightBracket or is k.Colon or is k.Exclamation or is k.Question or is k.Star or is k.Plus

-- the words of types before their brackets
abbrev pub takes_types : Kinds
takes_types = is k.Tuple or is k.Set or is k.ISet or is k.Valency or is k.Map

abbrev pub is_tight : Kind → Kind → Bool
is_tight one other = is_tight_behind one || is_tight_before other || (takes_types one && is k.LeftParenthesis other)

-- what stands between a word, if there is one, and the next
unfoldable pub gap : Option Kind → Kind → List ℕ
gap None other = []
gap (Some one) other = if is_tight one other then [] else 32 ∷ []

-- words behind a word, if there is one
unfoldable pub joined : Option Kind → List Word → List ℕ
joined previous [] = []
joined previous (word ∷ words) = gap previous word.kind ++ (spelling word ++ joined (Some word.kind) words)

-- ---- the text

abbrev pub line_text : Line → List ℕ
line_text line = line.indent ++ (joined None line.words ++ 10 ∷ [])

abbrev pub lines_of : Grammar → List Line
lines_of grammar = flat_map (λ statement. statement_lines statement.kind) grammar.statements

unfoldable pub canon : Grammar → List ℕ
canon grammar = flat_map line_text (lines_of grammar)

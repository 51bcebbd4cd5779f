-- The statements of a costs text, and the tokens that say them.
use Rattle.std.specs.Prelude.{◌≡◌, ℕ, ◌&&◌, Bool, true, false, List, [], ◌∷◌, codes, bytes_eq}
use Rattle.xdg_ast.specs.declared.token.Kind.{Kind}
use Rattle.xdg_ast.specs.declared.token.Kind.TheVariants as k
use Rattle.xdg_ast.specs.Lexemes.{Lexeme}
use Rattle.xdg_ast.specs.Grammar.{name_of, num_of, number_of}
use Rattle.xdg_ast.specs.Language.{each}
use Rattle.xdg_best.specs.declared.statements.Statement.{Statement}
use Rattle.xdg_best.specs.declared.statements.Statement.TheVariants as statements

abbrev pub is_number : Kind → Bool
is_number k.Number = true
is_number _ = false

abbrev pub is_constant : Kind → Bool
is_constant k.Name = true
is_constant k.Quoted = true
is_constant _ = false

abbrev pub is_name : Kind → Bool
is_name k.Name = true
is_name _ = false

-- the token is this word, without quotation marks
abbrev pub is_word : List ℕ → Lexeme → Bool
is_word word token = is_name token.kind && bytes_eq token.text word

abbrev pub entry_word : List ℕ
entry_word = codes "entry"

abbrev pub edge_word : List ℕ
edge_word = codes "edge"

-- The tokens of a statement: `entry` with the number of an entry and its cost, or `edge` with a dimension, a label and the cost of
-- an edge.
pub data Says : List Lexeme → Statement → Type 0 where
  entry : (word number cost : Lexeme) → is_word entry_word word ≡ true → is_number number.kind ≡ true → is_number cost.kind ≡ true
      → Says (word ∷ number ∷ cost ∷ []) (statements.Entry (num_of number) (number_of cost))
  edge : (word dim label cost : Lexeme) → is_word edge_word word ≡ true → is_constant dim.kind ≡ true → is_constant label.kind ≡ true
      → is_number cost.kind ≡ true
      → Says (word ∷ dim ∷ label ∷ cost ∷ []) (statements.Edge (name_of dim) (name_of label) (number_of cost))

-- the tokens are those of the statements, one behind the other
abbrev pub Derives : List Lexeme → List Statement → Type 0
Derives = each Says

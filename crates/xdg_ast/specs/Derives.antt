-- What lists of tokens stand for, with so many brackets that may be opened, and where tokens fail to stand for anything.
use Rattle.std.specs.Prelude.{◌≡◌, ℕ, true, List, [], ◌∷◌, ◌++◌, Some}
use Rattle.xdg_base.specs.declared.faults.Fault.{Fault}
use Rattle.xdg_base.specs.declared.faults.Cause.TheVariants as causes
use Rattle.xdg_ast.specs.Lexemes.{Lexeme}
use Rattle.xdg_ast.specs.Tokenizes.{Spells}
use Rattle.xdg_ast.specs.declared.grammar.Grammar.{Grammar}
use Rattle.xdg_ast.specs.Language.{span_of}
use Rattle.xdg_ast.specs.Grammar.{statements}
use Rattle.xdg_ast.specs.Brackets.{is_opening, walk}
use Rattle.xdg_base.specs.Faults.{fault_at}

-- ---- for any texts

-- what lists of tokens stand for, for each number of brackets that may be open at a time
abbrev pub Family : Type 0 → Type 1
Family A = ℕ → List Lexeme → A → Type 0

-- how many brackets may be open at a time
abbrev pub most_brackets : ℕ
most_brackets = 64

-- the tokens stand for this, with at most 64 brackets open at a time
abbrev pub DerivesWithin : {A : Type 0} → Family A → List Lexeme → A → Type 0
DerivesWithin means ts x = means most_brackets ts x

-- the tokens stand for this, with any number of brackets
abbrev pub Derives : {A : Type 0} → Family A → List Lexeme → A → Type 0
Derives means ts x = (n : ℕ) × means n ts x

-- some tokens after these make a list that stands for something
abbrev pub Starts : {A : Type 0} → Family A → List Lexeme → Type 0
Starts {A} means ts = (more : List Lexeme) × (x : A) × Derives means (ts ++ more) x

-- no bracket is one too many
abbrev pub IsShallow : List Lexeme → Type 0
IsShallow ts = (rest : ℕ) × (walk most_brackets ts ≡ Some rest)

-- a token starts there, or the text ends there
abbrev pub place_of : ℕ → List Lexeme → ℕ
place_of end [] = end
place_of end (t ∷ ts) = t.span.start

-- what comes next is not how a text goes on
abbrev pub Ends : {A : Type 0} → Family A → List Lexeme → List Lexeme → Type 0
Ends {A} means us [] = (x : A) → Derives means us x → ⊥
Ends means us (t ∷ ts) = Starts means (us ++ t ∷ []) → ⊥

-- the tokens before a place begin some text, and with the token there, or with the end, they don't
pub record IsUnexpectedAt {A : Type 0} (means : Family A) (ts : List Lexeme) (end place : ℕ) : Type 0 where
  pub before : List Lexeme
  pub rest : List Lexeme
  pub split : ts ≡ before ++ rest
  pub place_is : place ≡ place_of end rest
  pub starts : Starts means before
  pub ends : Ends means before rest
  pub shallow : IsShallow before

-- the tokens up to a place begin some text, and the bracket there is one too many
pub record IsTooDeepAt {A : Type 0} (means : Family A) (ts : List Lexeme) (place : ℕ) : Type 0 where
  pub before : List Lexeme
  pub bracket : Lexeme
  pub rest : List Lexeme
  pub split : ts ≡ before ++ bracket ∷ rest
  pub place_is : place ≡ bracket.span.start
  pub opens : is_opening bracket.kind ≡ true
  pub full : walk most_brackets before ≡ Some 0
  pub starts : Starts means (before ++ bracket ∷ [])

-- Why tokens are refused, where the text ends at a place.
pub data IsRefused {A : Type 0} (means : Family A) (ts : List Lexeme) (end : ℕ) : Fault → Type 0 where
  unexpected : (place : ℕ) → IsUnexpectedAt means ts end place → IsRefused means ts end (fault_at causes.Unexpected place)
  too_deep : (place : ℕ) → IsTooDeepAt means ts place → IsRefused means ts end (record { cause = causes.TooDeep; at = place; reached = 65 })

-- the bytes spell tokens that stand for this, with at most 64 brackets open at a time
abbrev pub SpellsOf : {A : Type 0} → Family A → List ℕ → A → Type 0
SpellsOf means bytes x = (ts : List Lexeme) × Spells bytes ts × DerivesWithin means ts x

-- ---- for grammar texts

-- the tokens derive the grammar: its statements, from the first token to the last
abbrev pub grammars : Family Grammar
grammars n ts g = (statements n).means ts g.statements × (g.span ≡ span_of ts)

-- the bytes spell tokens that derive the grammar, with at most 64 brackets open at a time, and its places are those of the tokens
abbrev pub Reads : List ℕ → Grammar → Type 0
Reads = SpellsOf grammars

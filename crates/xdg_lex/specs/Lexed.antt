-- The tokens of a text, or the first refusal, as a list, in the order in which the code comes to them: the characters are gone through once.
use Rattle.std.specs.Prelude.{◌≡◌, ℕ, ◌+◌, Option, Some, None, Result, Ok, Err, List, [], ◌∷◌, ◌++◌, length, if◌then◌else◌}
use Rattle.std.specs.Char.{encode_utf8}
use Rattle.std.specs.Str.{chars, is_utf8}
use Rattle.std.specs.Str.Lossy.{utf8_valid_len}
use Rattle.xdg_base.specs.Faults.{fault_at}
use Rattle.xdg_base.specs.declared.faults.Fault.{Fault}
use Rattle.xdg_base.specs.declared.faults.Cause.TheVariants as causes
use Rattle.xdg_base.specs.declared.faults.Stop.{Stop}
use Rattle.xdg_base.specs.declared.faults.Stop.TheVariants as stops
use Rattle.xdg_ast.specs.declared.token.Kind.{Kind}
use Rattle.xdg_ast.specs.declared.token.Token.{Token}
use Rattle.xdg_lex.specs.declared.pieces.Mode.{Mode}
use Rattle.xdg_lex.specs.declared.pieces.Mode.TheVariants as in_
use Rattle.xdg_lex.specs.declared.pieces.Turn.{Turn}
use Rattle.xdg_lex.specs.declared.pieces.Turn.TheVariants as turns
use Rattle.xdg_ast.specs.Kinds.{refined}
use Rattle.xdg_lex.specs.Pieces.{goes_on, begins, ends}
use Rattle.xdg_ast.specs.Lexemes.{Lexeme, lexemes_of, lexeme}

-- tokens, or a refusal
abbrev pub Lexed : Type 0
Lexed = Result (List Lexeme) Fault

-- the token that a piece is, if it is one
abbrev pub piece_of : Option Kind → ℕ → List ℕ → List Lexeme
piece_of None start text = []
piece_of (Some kind) start text = lexeme (refined kind text) start text ∷ []

-- tokens with those behind them
abbrev pub before : List Lexeme → Lexed → Lexed
before tokens (Ok more) = Ok (tokens ++ more)
before tokens (Err fault) = Err fault

-- a piece that ends, with what is behind it
abbrev pub ended : Result (Option Kind) Fault → ℕ → List ℕ → Lexed → Lexed
ended (Ok kind) start text behind = before (piece_of kind start text) behind
ended (Err fault) start text behind = Err fault

-- a piece that begins
abbrev pub begun : Result Mode Fault → (Mode → Lexed) → Lexed
begun (Ok mode) more = more mode
begun (Err fault) more = Err fault

-- a piece after one more character
abbrev pub turned : Turn → (Mode → Lexed) → Lexed → Lexed
turned (turns.GoesOn mode) more behind = more mode
turned turns.Ends more behind = behind
turned (turns.Refused fault) more behind = Err fault

-- a piece, which begins at a place and has these bytes so far, and the characters after them
unfoldable pub run : ℕ → List ℕ → Mode → List ℕ → Lexed
run start text mode [] = ended (ends mode start (length text)) start text (Ok [])
run start text mode (c ∷ cs) =
    turned (goes_on mode (start + length text) c) (λ next. run start (text ++ encode_utf8 c) next cs)
    (ended (ends mode start (length text)) start text (begun (begins (start + length text) c) (λ next. run (start + length text) (encode_utf8 c) next cs)))

-- the tokens of a text of characters
abbrev pub lexed_characters : List ℕ → Lexed
lexed_characters cs = run 0 [] in_.Between cs

-- the tokens of a text, or its first refusal: bytes that are no character come before all others
unfoldable pub lexed : List ℕ → Lexed
lexed bytes = if is_utf8 bytes then lexed_characters (chars bytes) else Err (fault_at causes.BadUtf8 (utf8_valid_len bytes))

-- a piece that ends is added to the tokens, if it is a token
abbrev pub Adds : Result (Option Kind) Fault → ℕ → List ℕ → List Token → Result (Unit {0}) Stop → List Token → Type 0
Adds outcome start text old (Ok done) new = (kind : Option Kind) × (outcome ≡ Ok kind) × (lexemes_of new ≡ lexemes_of old ++ piece_of kind start text)
Adds outcome start text old (Err (stops.Fault fault)) new = outcome ≡ Err fault
Adds outcome start text old (Err stops.OutOfMemory) new = Unit {0}

-- The first offence of a text that is no list of tokens.
use Rattle.std.specs.Prelude.{◌≡◌, Result, Ok, Err, ℕ, ◌+◌, ◌*◌, ◌-◌, ◌<◌, ◌≤◌, ◌==◌, true, false, Option, Some, None, List, [], ◌∷◌, ◌++◌, length}
use Rattle.std.specs.Char.{is_whitespace, is_ascii_digit}
use Rattle.std.specs.Str.{chars, IsUtf8, IsValidUpTo}
use Rattle.xdg_base.specs.Faults.{fault_at}
use Rattle.xdg_base.specs.declared.faults.Fault.{Fault}
use Rattle.xdg_base.specs.declared.faults.Cause.TheVariants as causes
use Rattle.xdg_base.specs.declared.faults.Stop.{Stop}
use Rattle.xdg_base.specs.declared.faults.Stop.TheVariants as stops
use Rattle.xdg_base.specs.Told.{TellsOf, answer_of}
use Rattle.xdg_ast.specs.declared.token.Kind.{Kind}
use Rattle.xdg_ast.specs.declared.token.Token.{Token}
use Rattle.xdg_base.specs.Spelling.{begins_name, continues_name}
use Rattle.xdg_ast.specs.Kinds.{sign_of}
use Rattle.xdg_lex.specs.Lexed.{Lexed}
use Rattle.xdg_ast.specs.Lexemes.{lexemes_of}
use Rattle.xdg_lex.specs.Pieces.{too_long}
use Rattle.xdg_ast.specs.Tokenizes.{size_of, EachPasses, StopsBefore, HasNoClose, IsGap, IsInside, IsToken, Spells, value_after, greatest_number}

-- no white space, comment or token but a comment between `/*` and `*/` begins with this character
pub record BeginsNothing (c : ℕ) : Type 0 where
  pub no_white : is_whitespace c ≡ false
  pub no_line : (c == 37) ≡ false
  pub no_quoted : (c == 34) ≡ false
  pub no_name : begins_name c ≡ false
  pub no_number : is_ascii_digit c ≡ false
  pub no_sign : sign_of c ≡ None

-- An offence that stands at the front of characters, which begin at a place.
pub data IsOffence (at : ℕ) : List ℕ → Fault → Type 0 where
  no_token : (c : ℕ) (behind : List ℕ) → (c == 47) ≡ false → BeginsNothing c → IsOffence at (c ∷ behind) (fault_at causes.BadChar at)
  no_comment : (behind : List ℕ) → StopsBefore (λ c. c == 42) behind → IsOffence at (47 ∷ behind) (fault_at causes.BadChar at)
  great_number : (c : ℕ) (body : List ℕ) (digit : ℕ) (behind : List ℕ) → is_ascii_digit c ≡ true → EachPasses is_ascii_digit body → is_ascii_digit digit ≡ true
      → value_after (c - 48) body ≤ greatest_number → greatest_number < value_after (c - 48) body * 10 + (digit - 48)
      → IsOffence at ((c ∷ body) ++ digit ∷ behind) (fault_at causes.BadChar (at + size_of (c ∷ body)))
  open_text : (inside : List ℕ) (content : ℕ) (wrong : Option ℕ) → IsInside (at + 1) inside content wrong
      → IsOffence at (34 ∷ inside) (fault_at causes.OpenText at)
  open_escape : (inside : List ℕ) (content : ℕ) (wrong : Option ℕ) → IsInside (at + 1) inside content wrong
      → IsOffence at (34 ∷ inside ++ 92 ∷ []) (fault_at causes.OpenText at)
  open_comment : (body : List ℕ) → HasNoClose body → IsOffence at (47 ∷ 42 ∷ body) (fault_at causes.OpenText at)
  long_name : (c : ℕ) (body behind : List ℕ) → begins_name c ≡ true → EachPasses continues_name body → StopsBefore continues_name behind
      → 127 < size_of (c ∷ body)
      → IsOffence at ((c ∷ body) ++ behind) (too_long at (size_of (c ∷ body)))
  long_text : (inside : List ℕ) (content : ℕ) (wrong : Option ℕ) (behind : List ℕ) → IsInside (at + 1) inside content wrong → 127 < content
      → IsOffence at ((34 ∷ inside ++ 34 ∷ []) ++ behind) (too_long at content)
  stray_backslash : (inside : List ℕ) (content backslash : ℕ) (behind : List ℕ) → IsInside (at + 1) inside content (Some backslash) → content ≤ 127
      → IsOffence at ((34 ∷ inside ++ 34 ∷ []) ++ behind) (fault_at causes.BadChar backslash)

-- White space, comments and short tokens stand before the first offence.
pub data Offends : ℕ → List ℕ → Fault → Type 0 where
  here : (at : ℕ) (cs : List ℕ) (fault : Fault) → IsOffence at cs fault → Offends at cs fault
  past_gap : (at : ℕ) (piece behind : List ℕ) (fault : Fault) → IsGap piece → Offends (at + size_of piece) behind fault → Offends at (piece ++ behind) fault
  past_token : (at : ℕ) (kind : Kind) (piece : List ℕ) (content : ℕ) (behind : List ℕ) (fault : Fault) → IsToken at kind piece content behind → content ≤ 127
      → Offends (at + size_of piece) behind fault → Offends at (piece ++ behind) fault

-- the bytes are not UTF-8, or else they have an offence
pub data IsRefused (bytes : List ℕ) : Fault → Type 0 where
  no_text : (at : ℕ) → (IsUtf8 bytes → ⊥) → IsValidUpTo bytes at → IsRefused bytes (fault_at causes.BadUtf8 at)
  no_tokens : (fault : Fault) → IsUtf8 bytes → Offends 0 (chars bytes) fault → IsRefused bytes fault

-- the bytes spell these tokens, or are refused so
abbrev pub IsAnswer : List ℕ → Lexed → Type 0
IsAnswer bytes (Ok tokens) = Spells bytes tokens
IsAnswer bytes (Err fault) = IsRefused bytes fault

-- a call answers so, unless memory ran out
abbrev pub Tells : List ℕ → Result (List Token) Stop → Type 0
Tells bytes result = TellsOf (IsAnswer bytes) (answer_of lexemes_of result)

-- a refusal stands in the text
abbrev pub StandsWithin : List ℕ → Stop → Type 0
StandsWithin bytes (stops.Fault fault) = fault.at ≤ length bytes
StandsWithin bytes stops.OutOfMemory = Unit {0}

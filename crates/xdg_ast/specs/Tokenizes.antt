-- The language of tokens: which characters are tokens, white space and comments in turn.
use Rattle.std.specs.Prelude.{◌≡◌, ℕ, ◌+◌, ◌*◌, ◌-◌, ◌≤◌, ◌==◌, Bool, true, false, Option, Some, None, List, [], ◌∷◌, ◌++◌, length, unwrap_or, not}
use Rattle.std.specs.Char.{is_whitespace, is_ascii_digit, len_utf8}
use Rattle.std.specs.Str.{chars, IsUtf8, encode_utf8_all}
use Rattle.xdg_ast.specs.declared.token.Kind.{Kind}
use Rattle.xdg_ast.specs.declared.token.Kind.TheVariants as kinds
use Rattle.xdg_base.specs.Spelling.{begins_name, continues_name, is_escaped}
use Rattle.xdg_ast.specs.Kinds.{sign_of, refined}
use Rattle.xdg_ast.specs.Lexemes.{Lexeme, lexeme}

-- how many bytes characters take
abbrev pub size_of : List ℕ → ℕ
size_of cs = length (encode_utf8_all cs)

-- each character passes the test
abbrev pub EachPasses : (ℕ → Bool) → List ℕ → Type 0
EachPasses test [] = Unit {0}
EachPasses test (c ∷ cs) = (test c ≡ true) × EachPasses test cs

-- the text ends, or goes on with a character that does not pass the test
abbrev pub StopsBefore : (ℕ → Bool) → List ℕ → Type 0
StopsBefore test [] = Unit {0}
StopsBefore test (c ∷ cs) = test c ≡ false

abbrev pub is_slash : ℕ → Bool
is_slash c = c == 47

abbrev pub is_no_line_feed : ℕ → Bool
is_no_line_feed c = not (c == 10)

-- no star of these characters has a slash behind it
abbrev pub HasNoClose : List ℕ → Type 0
HasNoClose [] = Unit {0}
HasNoClose (c ∷ cs) = ((c == 42) ≡ true → StopsBefore is_slash cs) × HasNoClose cs

-- What may stand between tokens: one character of white space, a comment with its line feed, a closed comment.
pub data IsGap : List ℕ → Type 0 where
  white : (c : ℕ) → is_whitespace c ≡ true → IsGap (c ∷ [])
  line : (body : List ℕ) → EachPasses is_no_line_feed body → IsGap (37 ∷ body ++ 10 ∷ [])
  closed : (body : List ℕ) → HasNoClose (body ++ 42 ∷ []) → IsGap (47 ∷ 42 ∷ body ++ 42 ∷ 47 ∷ [])

-- The inside of a quoted text, which begins at a place: how many bytes it stands for, and the first backslash of it that
-- stands neither before a quotation mark nor before a backslash. Such a backslash stands for itself.
pub data IsInside (start : ℕ) : List ℕ → ℕ → Option ℕ → Type 0 where
  nothing : IsInside start [] 0 None
  plain : (cs : List ℕ) (content : ℕ) (wrong : Option ℕ) (c : ℕ) → IsInside start cs content wrong → is_escaped c ≡ false
      → IsInside start (cs ++ c ∷ []) (content + len_utf8 c) wrong
  escaped : (cs : List ℕ) (content : ℕ) (wrong : Option ℕ) (c : ℕ) → IsInside start cs content wrong → is_escaped c ≡ true
      → IsInside start (cs ++ 92 ∷ c ∷ []) (content + 1) wrong
  stray : (cs : List ℕ) (content : ℕ) (wrong : Option ℕ) (c : ℕ) → IsInside start cs content wrong → is_escaped c ≡ false
      → IsInside start (cs ++ 92 ∷ c ∷ []) (content + 1 + len_utf8 c) (Some (unwrap_or wrong (start + size_of cs)))

-- the number that digits write, after those that wrote a number
abbrev pub value_after : ℕ → List ℕ → ℕ
value_after value [] = value
value_after value (c ∷ cs) = value_after (value * 10 + (c - 48)) cs

abbrev pub greatest_number : ℕ
greatest_number = 4294967295

-- A token that begins at a place: its kind, its characters, how many bytes of content it has where these are counted, and
-- what stands behind it. Names and numbers are as long as possible.
pub data IsToken (start : ℕ) : Kind → List ℕ → ℕ → List ℕ → Type 0 where
  name : (c : ℕ) (body behind : List ℕ) → begins_name c ≡ true → EachPasses continues_name body → StopsBefore continues_name behind
      → IsToken start (refined kinds.Name (encode_utf8_all (c ∷ body))) (c ∷ body) (size_of (c ∷ body)) behind
  number : (c : ℕ) (body behind : List ℕ) → is_ascii_digit c ≡ true → EachPasses is_ascii_digit body → StopsBefore is_ascii_digit behind
      → value_after (c - 48) body ≤ greatest_number → IsToken start kinds.Number (c ∷ body) 0 behind
  quoted : (inside : List ℕ) (content : ℕ) (behind : List ℕ) → IsInside (start + 1) inside content None
      → IsToken start kinds.Quoted (34 ∷ inside ++ 34 ∷ []) content behind
  sign : (c : ℕ) (kind : Kind) (behind : List ℕ) → sign_of c ≡ Some kind → IsToken start kind (c ∷ []) 0 behind

-- Characters that begin at a place are white space, comments and the tokens in turn, and no content of a name or a quoted
-- text has more bytes than the limit. A comment up to the end of its line may end the text.
pub data Tokenizes (limit : ℕ) : ℕ → List ℕ → List Lexeme → Type 0 where
  finished : (at : ℕ) → Tokenizes limit at [] []
  last_comment : (at : ℕ) (body : List ℕ) → EachPasses is_no_line_feed body → Tokenizes limit at (37 ∷ body) []
  gap : (at : ℕ) (piece behind : List ℕ) (tokens : List Lexeme) → IsGap piece → Tokenizes limit (at + size_of piece) behind tokens
      → Tokenizes limit at (piece ++ behind) tokens
  token : (at : ℕ) (kind : Kind) (piece : List ℕ) (content : ℕ) (behind : List ℕ) (tokens : List Lexeme) → IsToken at kind piece content behind
      → content ≤ limit
      → Tokenizes limit (at + size_of piece) behind tokens → Tokenizes limit at (piece ++ behind) (lexeme kind at (encode_utf8_all piece) ∷ tokens)

-- the bytes are UTF-8, and spell these tokens, each with at most 127 bytes of content
abbrev pub Spells : List ℕ → List Lexeme → Type 0
Spells bytes tokens = IsUtf8 bytes × Tokenizes 127 0 (chars bytes) tokens

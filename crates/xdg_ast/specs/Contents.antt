-- What tokens stand for.
use Rattle.std.specs.Prelude.{ℕ, ◌+◌, ◌*◌, ◌-◌, min, Bool, true, false, if◌then◌else◌, ◌==◌, List, [], ◌∷◌}
use Rattle.std.specs.Str.{chars, encode_utf8_all}
use Rattle.xdg_ast.specs.declared.token.Kind.{Kind}
use Rattle.xdg_ast.specs.declared.token.Kind.TheVariants as kinds

-- the characters of a quoted text, of which the first may be escaped: a quotation mark that isn't escaped and the
-- backslash of an escaped character are left out
abbrev pub undone : Bool → List ℕ → List ℕ
undone escaped [] = []
undone true (c ∷ cs) = c ∷ undone false cs
undone false (c ∷ cs) = if c == 34 then undone false cs else (if c == 92 then undone true cs else c ∷ undone false cs)

-- the bytes that a quoted text stands for
abbrev pub unquoted : List ℕ → List ℕ
unquoted text = encode_utf8_all (undone false (chars text))

-- the bytes that a token stands for: a quoted text those inside it, and any other token its own
abbrev pub content_of : Kind → List ℕ → List ℕ
content_of kinds.Quoted text = unquoted text
content_of kind text = text

-- a number after one more digit, at most 4,294,967,295
abbrev pub with_digit : ℕ → ℕ → ℕ
with_digit value digit = min (value * 10 + (digit - 48)) 4294967295

abbrev pub value_from : ℕ → List ℕ → ℕ
value_from value [] = value
value_from value (digit ∷ digits) = value_from (with_digit value digit) digits

-- the number that digits write, or 4,294,967,295 where it is greater
unfoldable pub value_of : List ℕ → ℕ
value_of digits = value_from 0 digits

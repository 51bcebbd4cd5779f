-- The pieces of a line, and how they are read: a value and the bytes after it, or nothing.
use denote.Ref.{Bor}
use Rattle.std.specs.Prelude.{◌≡◌, ℕ, zero, suc, length, ◌+◌, ◌*◌, ◌-◌, ◌==◌, ◌&&◌, min, nat_le, Bool, true, false, cond, not, Option, Some, None, Result, Ok, Err, List, [], ◌∷◌, ◌++◌, decimal, bytes_eq}
use Rattle.std.specs.Bool.{MatchBool}
use Rattle.std.specs.List.{list_all}
use Rattle.xdg_problem.specs.declared.parts.Shown.{Shown}
use Rattle.xdg_problem.specs.declared.parts.Shown.TheVariants as shown
use Rattle.xdg_text.specs.Constants.{is_name, is_escaped}
use Rattle.xdg_reading.specs.declared.cursor.Why.{Why}
use Rattle.xdg_reading.specs.declared.cursor.Why.TheVariants as why

-- goes on behind a value
abbrev pub after : {X Y : Type 0} → Option (X × List ℕ) → (X → List ℕ → Option Y) → Option Y
after None f = None
after (Some x) f = f x.0 x.1

-- goes on behind a text
abbrev pub past : {Y : Type 0} → Option (List ℕ) → (List ℕ → Option Y) → Option Y
past None f = None
past (Some rest) f = f rest

-- goes on behind a text, or else otherwise
abbrev pub past_or : {Y : Type 0} → Option (List ℕ) → (List ℕ → Option Y) → Option Y → Option Y
past_or None f other = other
past_or (Some rest) f other = f rest

-- a value more before a list
abbrev pub lead : {X : Type 0} → X → Option (List X × List ℕ) → Option (List X × List ℕ)
lead x None = None
lead x (Some found) = Some (x ∷ found.0, found.1)

-- values before a list
abbrev pub leads : {X : Type 0} → List X → Option (List X × List ℕ) → Option (List X × List ℕ)
leads xs None = None
leads xs (Some found) = Some (xs ++ found.0, found.1)

-- what stands behind a text
abbrev pub behind : List ℕ → List ℕ → Option (List ℕ)
behind [] bytes = Some bytes
behind (c ∷ word) [] = None
behind (c ∷ word) (byte ∷ bytes) = cond (byte == c) (behind word bytes) None

-- what stands before the first byte of this kind, and behind it
abbrev pub until : ℕ → List ℕ → Option (List ℕ × List ℕ)
until end [] = None
until end (byte ∷ bytes) = cond (byte == end) (Some ([], bytes)) (lead byte (until end bytes))

-- the inside of a quoted text, of which the first byte may be escaped, and what stands behind its closing mark
unfoldable pub inside : Bool → List ℕ → Option (List ℕ × List ℕ)
inside escaped [] = None
inside true (byte ∷ bytes) = cond (is_escaped byte) (lead byte (inside false bytes)) None
inside false (byte ∷ bytes) = cond (byte == 34) (Some ([], bytes)) (cond (byte == 92) (inside true bytes) (lead byte (inside false bytes)))

-- the number that digits write, or 2 ^ 64 - 1 where it is greater
abbrev pub value_from : ℕ → List ℕ → ℕ
value_from value [] = value
value_from value (digit ∷ digits) = value_from (min (value * 10 + (digit - 48)) 18446744073709551615) digits

unfoldable pub value_of : List ℕ → ℕ
value_of digits = value_from 0 digits

-- the number that is written so, within bounds, if one is
unfoldable pub number_of : ℕ → ℕ → List ℕ → Option ℕ
number_of least most digits =
    cond (bytes_eq (decimal (value_of digits)) digits && nat_le least (value_of digits) && nat_le (value_of digits) most) (Some (value_of digits)) None

-- with what stands behind it
abbrev pub and : {X : Type 0} → Option X → List ℕ → Option (X × List ℕ)
and None rest = None
and (Some x) rest = Some (x, rest)

-- a number within bounds, up to an end
unfoldable pub number_at : ℕ → ℕ → ℕ → List ℕ → Option (ℕ × List ℕ)
number_at end least most bytes = after (until end bytes) (λ digits rest. and (number_of least most digits) rest)

-- a number from 1 on, told as it counts from 0
unfoldable pub ordinal_at : ℕ → ℕ → List ℕ → Option (ℕ × List ℕ)
ordinal_at end most bytes = after (number_at end 1 most bytes) (λ number rest. Some (number - 1, rest))

-- a quoted text, and an end behind it
unfoldable pub quoted_at : ℕ → List ℕ → Option (List ℕ × List ℕ)
quoted_at end bytes = past (behind (34 ∷ []) bytes) (λ rest. after (inside false rest) (λ text rest. past (behind (end ∷ []) rest) (λ rest. Some (text, rest))))

-- a name, and an end behind it
unfoldable pub name_at : ℕ → List ℕ → Option (List ℕ × List ℕ)
name_at end bytes = after (until end bytes) (λ text rest. cond (is_name text) (Some (text, rest)) None)

-- a quoted text that is no name, and an end behind it
unfoldable pub quoted_constant_at : ℕ → List ℕ → Option (List ℕ × List ℕ)
quoted_constant_at end bytes = after (quoted_at end bytes) (λ text rest. cond (is_name text) None (Some (text, rest)))

abbrev pub begins_quoted : List ℕ → Bool
begins_quoted [] = false
begins_quoted (byte ∷ bytes) = byte == 34

-- a constant, and an end behind it
unfoldable pub constant_at : ℕ → List ℕ → Option (List ℕ × List ℕ)
constant_at end bytes = cond (begins_quoted bytes) (quoted_constant_at end bytes) (name_at end bytes)

-- the first that is there
abbrev pub or_else : {X : Type 0} → Option X → Option X → Option X
or_else None other = other
or_else (Some x) other = Some x

-- a constant in brackets, and whether another follows
unfoldable pub element_at : List ℕ → Option ((List ℕ × Bool) × List ℕ)
element_at bytes =
    or_else (after (constant_at 32 bytes) (λ text rest. Some ((text, true), rest))) (after (constant_at 93 bytes) (λ text rest. Some ((text, false), rest)))

-- at most so many constants with a space between two, up to a closing bracket
abbrev pub constants_at : ℕ → List ℕ → Option (List (List ℕ) × List ℕ)
constants_at zero bytes = None
constants_at (suc most) bytes =
    after (element_at bytes) (λ element rest. cond element.1 (lead element.0 (constants_at most rest)) (Some (element.0 ∷ [], rest)))

-- constants behind an opening bracket, up to the end of their line
unfoldable pub tuple_at : List ℕ → Option (Shown × List ℕ)
tuple_at bytes = after (constants_at (length bytes) bytes) (λ texts rest. past (behind (10 ∷ []) rest) (λ rest. Some (shown.Many texts, rest)))

-- a value of an attribute, up to the end of its line
unfoldable pub value_at : List ℕ → Option (Shown × List ℕ)
value_at bytes = past_or (behind (91 ∷ []) bytes) tuple_at (after (constant_at 10 bytes) (λ text rest. Some (shown.One text, rest)))

-- A text is gone past, or it does not stand there.
abbrev pub Skips : List ℕ → List ℕ → Bool → List ℕ → Type 0
Skips word old skipped new = MatchBool skipped (behind word old ≡ Some new) ((behind word old ≡ None) × (new ≡ old))

-- What is lent is what is read, and the bytes behind it are left.
abbrev pub Takes : Option (List ℕ × List ℕ) → Option (Bor (List ℕ)) → List ℕ → Type 0
Takes read None new = read ≡ None
Takes read (Some piece) new = read ≡ Some (piece.now, new)

-- What is answered is what is read, and the bytes behind it are left, unless memory ran out.
abbrev pub Reads : {X : Type 0} → Option (X × List ℕ) → Result X Why → List ℕ → Type 0
Reads read (Ok x) new = read ≡ Some (x, new)
Reads read (Err why.Memory) new = Unit {0}
Reads read (Err why.Offends) new = read ≡ None

-- neither a quotation mark nor a backslash
abbrev pub is_plain : ℕ → Bool
is_plain byte = not (byte == 34) && not (byte == 92)

abbrev pub stops_plain : List ℕ → Bool
stops_plain [] = true
stops_plain (byte ∷ bytes) = not (is_plain byte)

-- A piece without quotation marks and backslashes is gone past, and nothing or one of them stands behind it.
pub record GoesPlain (old piece new : List ℕ) : Type 0 where
  pub parts : old ≡ piece ++ new
  pub plain : list_all is_plain piece ≡ true
  pub stops : stops_plain new ≡ true

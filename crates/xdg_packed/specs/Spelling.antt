-- The spelling of values: different values have different spellings, and none is the front of another's.
use Rattle.std.specs.Prelude.{ℕ, zero, suc, ◌+◌, ◌==◌, Bool, cond, List, [], ◌∷◌, ◌++◌, length, codes}
use Rattle.std.proofs.Common.{◌/◌, ◌%◌}
use Rattle.xdg_domain.specs.declared.values.Value.{Value}
use Rattle.xdg_domain.specs.declared.values.Value.TheOpen.{Value-F}
use Rattle.xdg_domain.specs.declared.values.Value.TheFolds.{fold-Value}

-- the digits of a number in base 64, the lowest first, at most so many: the characters from `0` on
unfoldable pub digits : ℕ → ℕ → List ℕ
digits zero n = []
digits (suc turns) n = cond (n == 0) [] ((48 + n % 64) ∷ digits turns (n / 64))

-- a number: its digits, and a full stop
unfoldable pub number : ℕ → List ℕ
number n = digits n n ++ codes "."

-- the elements of a list: a comma before each, and a semicolon at the end
abbrev pub each : {A : Type 0} → (A → List ℕ) → List A → List ℕ
each code [] = codes ";"
each code (x ∷ xs) = codes "," ++ code x ++ each code xs

abbrev pub numbers : List ℕ → List ℕ
numbers all = each number all

-- what is said of keys or fields: the number of each, and what is said of it
abbrev pub keyed : {A : Type 0} → (A → List ℕ) → List (ℕ × A) → List ℕ
keyed code entries = each (λ entry. number entry.0 ++ code entry.1) entries

-- a text: its length in bytes, and the text
abbrev pub text : List ℕ → List ℕ
text bytes = number (length bytes) ++ bytes

-- a truth value
abbrev pub truth : Bool → List ℕ
truth b = cond b (codes "1") (codes "0")

-- one layer of a value, what it holds being spelled: a mark of the variant, and what it holds
abbrev pub layer : Value-F (List ℕ) → List ℕ
layer (Value-F.Const n) = codes "c" ++ number n
layer (Value-F.Tuple n) = codes "t" ++ number n
layer (Value-F.Set ns) = codes "s" ++ numbers ns
layer (Value-F.Card ns) = codes "n" ++ numbers ns
layer (Value-F.Valency entries) = codes "v" ++ keyed numbers entries
layer (Value-F.Map entries) = codes "m" ++ keyed (λ spelled. spelled) entries
layer (Value-F.Bool b) = codes "b" ++ truth b
layer (Value-F.Int n) = codes "i" ++ number n
layer (Value-F.Str bytes) = codes "q" ++ text bytes
layer (Value-F.Rec entries) = codes "r" ++ keyed (λ spelled. spelled) entries

-- a value
unfoldable pub spelling : Value → List ℕ
spelling value = fold-Value (List ℕ) layer value

-- a record
abbrev pub spelling_of_fields : List (ℕ × Value) → List ℕ
spelling_of_fields fields = keyed spelling fields

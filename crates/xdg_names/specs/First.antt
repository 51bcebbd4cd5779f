-- The first of several faults: that with the least place, at one place that with the least number, and of one place and
-- number that which reached least.
use Rattle.std.specs.Prelude.{◌≡◌, ℕ, ◌<◌, ◌≤◌, ◌⊎◌, Bool, List, [], ◌∷◌, ltb, eqb, ◌&&◌, ◌||◌, Option, Some, None, if◌then◌else◌}
use Rattle.xdg_base.specs.declared.faults.Fault.{Fault}
use Rattle.xdg_base.specs.Faults.{number_of}

-- whether a comes before b
abbrev pub is_before : Fault → Fault → Bool
is_before a b =
    ltb a.at b.at || eqb a.at b.at && (ltb (number_of a.cause) (number_of b.cause) || eqb (number_of a.cause) (number_of b.cause) && ltb a.reached b.reached)

-- the first of two, if there are any
abbrev pub earlier : Option Fault → Option Fault → Option Fault
earlier None b = b
earlier (Some x) None = Some x
earlier (Some x) (Some y) = if is_before y x then Some y else Some x

-- the first of a list
abbrev pub first : List Fault → Option Fault
first [] = None
first (f ∷ fs) = earlier (Some f) (first fs)

-- b doesn't come before a
abbrev pub IsFirstOf : Fault → Fault → Type 0
IsFirstOf a b =
    (a.at < b.at)
    ⊎ ((a.at ≡ b.at) × ((number_of a.cause < number_of b.cause) ⊎ ((number_of a.cause ≡ number_of b.cause) × (a.reached ≤ b.reached))))

-- of two faults that differ one comes first: those of which neither comes before the other are one
abbrev pub IsOneFirst : Type 0
IsOneFirst = (a b : Fault) → IsFirstOf a b → IsFirstOf b a → a ≡ b

-- What an answer says of a set of offences: there is none, or it is the first one.
abbrev pub Tells : (Fault → Type 0) → Option Fault → Type 0
Tells P None = (f : Fault) → P f → ⊥
Tells P (Some a) = P a × ((f : Fault) → P f → IsFirstOf a f)

-- an offence at one of the numbers below n
abbrev pub Below : (ℕ → Fault → Type 0) → ℕ → Fault → Type 0
Below P n f = (k : ℕ) × ((k < n) × P k f)

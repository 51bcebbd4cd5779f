-- What is taken from the bytes that a source has left, where those are told.
use Rattle.std.specs.Prelude.{◌≡◌, ◌≤◌, ◌↔◌, ◌++◌, ℕ, List, Option, [], length, None, Some}
use Rattle.std.specs.Io.KnownBytes.{prepend_known}

-- these bytes were the next ones, and the others are left; where nothing was told, nothing is told now
pub record Takes (old new : Option (List ℕ)) (taken : List ℕ) : Type 0 where
  pub is : old ≡ prepend_known taken new

-- a count of bytes that were given is zero exactly at the end
abbrev pub EndsAt : Option (List ℕ) → ℕ → Type 0
EndsAt None count = Unit {0}
EndsAt (Some left) count = (count ≡ 0) ↔ (left ≡ [])

-- these bytes are all that was left, and nothing is left now
abbrev pub TakesAll : Option (List ℕ) → Option (List ℕ) → List ℕ → Type 0
TakesAll None new taken = new ≡ None
TakesAll (Some left) new taken = (taken ≡ left) × (new ≡ Some [])

-- exactly so many bytes were taken
pub record TakesCount (old new : Option (List ℕ)) (count : ℕ) : Type 0 where
  pub taken : List ℕ
  pub count_is : length taken ≡ count
  pub takes : Takes old new taken

-- at most so many bytes were taken
pub record TakesUpTo (old new : Option (List ℕ)) (limit : ℕ) : Type 0 where
  pub taken : List ℕ
  pub within : length taken ≤ limit
  pub takes : Takes old new taken

-- the next bytes, so many of them, were put behind those before
pub record GivesPiece (old new : Option (List ℕ)) (before after : List ℕ) (count : ℕ) : Type 0 where
  pub piece : List ℕ
  pub size : length piece ≡ count
  pub grows : after ≡ before ++ piece
  pub takes : Takes old new piece
  pub end : EndsAt old count

-- from the first moment on these bytes were taken, and no more than the limit
pub record ReadSoFar (first now : Option (List ℕ)) (bytes : List ℕ) (limit : ℕ) : Type 0 where
  pub takes : Takes first now bytes
  pub within : length bytes ≤ limit

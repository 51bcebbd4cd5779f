-- What is taken from words on a trail.
use Rattle.std.specs.Prelude.{◌≡◌, ℕ, ◌+◌, ◌*◌, ◌/◌, ◌%◌, ◌^◌, ◌<◌, ◌≢◌, true, false, List, ◌∷◌, length, slice_index, slice_set}
use Rattle.std.specs.Int.{bit_at, bit_not, w64}
use lib.Bits.{bit_and}
use Rattle.xdg_trail.specs.Trailed.{Trailed, past}
use Rattle.xdg_store.specs.Change.{IsTaken}
use Rattle.xdg_store.specs.Layout.{is_set}
use Rattle.xdg_store.specs.declared.change.Change.{Change}
use Rattle.xdg_store.specs.declared.change.Change.TheVariants as changes

-- the words without a bit
unfoldable pub cleared : List ℕ → ℕ → List ℕ
cleared words bit = slice_set words (bit / 64) (bit_and (slice_index words (bit / 64)) (bit_not w64 (1 * 2 ^ (bit % 64) % 2 ^ 64)))

-- a bit was cleared, with one record on the trail
pub record Clears (old new : Trailed) (bit : ℕ) : Type 0 where
  pub words : new.words ≡ cleared old.words bit
  pub past_is : past new ≡ cleared old.words bit ∷ past old
  pub room : new.spare + length new.records ≡ old.spare + length old.records

-- a row has a bit that is set beside that of a value
abbrev pub HasOther : List ℕ → ℕ → ℕ → ℕ → Type 0
HasOther words start size value = (x : ℕ) × (x < size) × (x ≢ value) × (is_set words (start + x) ≡ true)

-- a word of a row has a bit that is set beside that of a value; its lowest bit is that of the value first
abbrev pub HasOtherInWord : ℕ → ℕ → ℕ → ℕ → Type 0
HasOtherInWord word first size value = (i : ℕ) × (i < 64) × (first + i < size) × (first + i ≢ value) × (bit_at word i ≡ 1)

-- a bit was taken, unless it was not set, or no other bit stood beside it
abbrev pub Takes : Change → Trailed → Trailed → ℕ → Type 0 → Type 0
Takes changes.Same old new bit Other = (is_set old.words bit ≡ false) × (new ≡ old)
Takes changes.Changed old new bit Other = (is_set old.words bit ≡ true) × Other × Clears old new bit
Takes changes.Emptied old new bit Other = (is_set old.words bit ≡ true) × (Other → ⊥) × (new ≡ old)

-- ---- several at once

-- a row has a bit that is set beside those taken
abbrev pub HasLeft : List ℕ → ℕ → ℕ → ℕ → ℕ → Type 0
HasLeft words start size block taken = (x : ℕ) × (x < size) × (IsTaken block taken x → ⊥) × (is_set words (start + x) ≡ true)

-- a word of a row has a bit that is set and isn't taken; its lowest bit is that of the value first
abbrev pub HasLeftInWord : ℕ → ℕ → ℕ → ℕ → Type 0
HasLeftInWord word first size taken = (i : ℕ) × (i < 64) × (first + i < size) × (bit_at taken i ≢ 1) × (bit_at word i ≡ 1)

-- the bits that are taken were cleared, with one record on the trail
pub record ClearsAll (old new : Trailed) (start size block taken : ℕ) : Type 0 where
  pub count : length new.words ≡ length old.words
  pub gone : (v : ℕ) → v < size → IsTaken block taken v → is_set new.words (start + v) ≡ false
  pub others : (b : ℕ) → ((v : ℕ) → v < size → IsTaken block taken v → b ≢ start + v) → is_set new.words b ≡ is_set old.words b
  pub past_is : past new ≡ new.words ∷ past old
  pub room : new.spare + length new.records ≡ old.spare + length old.records

-- the bits that are taken were cleared, unless none of them was set, or no other bit stood beside them
abbrev pub TakesAll : Change → Trailed → Trailed → ℕ → ℕ → ℕ → ℕ → Type 0
TakesAll changes.Same old new start size block taken = ((v : ℕ) → v < size → IsTaken block taken v → is_set old.words (start + v) ≡ true → ⊥) × (new ≡ old)
TakesAll changes.Changed old new start size block taken =
    ((v : ℕ) × (v < size) × IsTaken block taken v × (is_set old.words (start + v) ≡ true))
    × HasLeft old.words start size block taken
    × ClearsAll old new start size block taken
TakesAll changes.Emptied old new start size block taken = (HasLeft old.words start size block taken → ⊥) × (new ≡ old)

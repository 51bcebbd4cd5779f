-- The different records of a dimension beside their spellings, the first entry with each, and for each entry the place of its record
-- among them.
use Rattle.std.specs.Prelude.{◌≡◌, ℕ, ◌<◌, ◌≤◌, false, List, [], ◌∷◌, ◌++◌, length, get_or, map, All}
use Rattle.xdg_names.specs.Texts.{has_text}
use Rattle.xdg_packed.specs.Lexicon.{Record, KeepsEachOnce}
use Rattle.xdg_packed.specs.Spelling.{spelling_of_fields}
use Rattle.xdg_facts.specs.Membership.{Differ}

-- the records of the entries
abbrev pub shown : List Record → List ℕ → List Record
shown rows places = map (λ place. get_or rows place []) places

-- Beside each row stands the number of the first entry that has it: that entry's place is the row's, and no entry with a smaller
-- number has that place.
pub record AreFirsts (firsts places : List ℕ) : Type 0 where
  pub have : (row : ℕ) → row < length firsts → (get_or firsts row 0 < length places) × (get_or places (get_or firsts row 0) 0 ≡ row)
  pub least : (entry : ℕ) → entry < length places → get_or firsts (get_or places entry 0) 0 ≤ entry

-- each place is that of a row, the rows are the different records of the entries, each once, and beside each stands its first entry
pub record IsTable (rows : List Record) (firsts places : List ℕ) : Type 0 where
  pub within : All (λ place. place < length rows) places
  pub kept : KeepsEachOnce (shown rows places) rows
  pub as_many : length firsts ≡ length rows
  pub firsts_are : AreFirsts firsts places

-- the place of the first of the records that equal the one at a place
pub record IsFirst (records : List Record) (at first : ℕ) : Type 0 where
  pub within : first < length records
  pub alike : get_or records first [] ≡ get_or records at []
  pub least : (other : ℕ) → other < length records → get_or records other [] ≡ get_or records at [] → first ≤ other

-- the number of an entry goes last where the place of its record is past those of the rows, and else nothing changes
pub record AddsFirst (firsts after : List ℕ) (place number : ℕ) : Type 0 where
  pub known : place < length firsts → after ≡ firsts
  pub fresh : length firsts ≤ place → after ≡ firsts ++ number ∷ []

-- these are the spellings of the records, all different
pub record AreSpelled (rows : List Record) (spellings : List (List ℕ)) : Type 0 where
  pub spelled : map spelling_of_fields rows ≡ spellings
  pub differ : Differ spellings

-- the record stood at that place, and nothing changes
pub record IsKnownRow (rows : List Record) (spellings : List (List ℕ)) (after : List Record) (after_spellings : List (List ℕ)) (fields : Record) (place : ℕ) :
    Type 0 where
  pub rows_stay : after ≡ rows
  pub spellings_stay : after_spellings ≡ spellings
  pub within : place < length rows
  pub stands : get_or rows place [] ≡ fields

-- the record is new, and stands last
pub record IsNewRow (rows : List Record) (spellings : List (List ℕ)) (after : List Record) (after_spellings : List (List ℕ)) (fields : Record) (place : ℕ) :
    Type 0 where
  pub fresh : has_text spellings (spelling_of_fields fields) ≡ false
  pub rows_grow : after ≡ rows ++ fields ∷ []
  pub spellings_grow : after_spellings ≡ spellings ++ spelling_of_fields fields ∷ []
  pub last : place ≡ length rows

-- The tables of a lexicon, one for each dimension, and what they become while entries are added.
use Rattle.std.specs.Prelude.{◌≡◌, ℕ, ◌<◌, List, [], ◌∷◌, ◌++◌, length, get_or, map}
use Rattle.xdg_packed.specs.Lexicon.{Record, Entry}
use Rattle.xdg_packed.specs.Rows.{shown, IsTable, AreSpelled}
use Rattle.xdg_packed.specs.Spelling.{numbers}
use Rattle.xdg_packed.specs.declared.table.Table.{Table}

-- a table of no entry
abbrev pub no_table : Table
no_table = record { rows = []; firsts = []; places = [] }

-- the records of the entries
abbrev pub records : Table → List Record
records table = shown table.rows table.places

-- the different records stand in it once
abbrev pub IsRight : Table → Type 0
IsRight table = IsTable table.rows table.firsts table.places

-- each table is right, and beside it stand the spellings of its rows
pub record AreTables (tables : List Table) (spellings : List (List (List ℕ))) : Type 0 where
  pub as_many : length spellings ≡ length tables
  pub right : (dim : ℕ) → IsRight (get_or tables dim no_table)
  pub spelled : (dim : ℕ) → AreSpelled (get_or tables dim no_table).rows (get_or spellings dim [])

-- the record of one entry more stands last, and those before it stay at their places
pub record AddsRecord (old new : Table) (fields : Record) : Type 0 where
  pub records_grow : records new ≡ records old ++ fields ∷ []
  pub place : ℕ
  pub places_grow : new.places ≡ old.places ++ place ∷ []

-- each table has the record of one entry more, where one that isn't there yet is a table of no entry
pub record AddsEntry (old new : List Table) (entry : Entry) : Type 0 where
  pub as_many : length new ≡ length entry
  pub each : (dim : ℕ) → dim < length entry → AddsRecord (get_or old dim no_table) (get_or new dim no_table) (get_or entry dim [])

-- a table without its last entry, where an entry before it has the same record
abbrev pub IsWithoutLast : Table → Table → Type 0
IsWithoutLast old new = (new.rows ≡ old.rows) × (new.firsts ≡ old.firsts)
    × ((before : List ℕ) (last : ℕ) → old.places ≡ before ++ last ∷ [] → new.places ≡ before)

-- the places at which the records of an entry stand, one for each table
abbrev pub places_at : List Table → ℕ → List ℕ
places_at tables number = map (λ table. get_or table.places number 0) tables

-- the text that spells these places: two entries are equal where theirs is
abbrev pub key : List Table → ℕ → List ℕ
key tables number = numbers (places_at tables number)

-- beside the first entries, so many, stand their keys
pub record AreKeys (tables : List Table) (keys : List (List ℕ)) (count : ℕ) : Type 0 where
  pub as_many : length keys ≡ count
  pub each : (number : ℕ) → number < count → get_or keys number [] ≡ key tables number

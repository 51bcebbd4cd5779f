-- Expanded entries: a record for each used dimension, in which each feature has a value.
use Rattle.std.specs.Prelude.{◌≡◌, ℕ, ◌≤◌, List, [], ◌∷◌, length, map, get_or, slice_get, Option, None, Some, codes}
use Rattle.xdg_domain.specs.Defaults.{IsFilled}
use Rattle.xdg_domain.specs.Shapes.{Shape, fields, text, fields_of}
use Rattle.xdg_domain.specs.Values.{IsValue}
use Rattle.xdg_domain.specs.declared.values.Value.TheVariants as v
use Rattle.xdg_types.specs.declared.table.DimType.{DimType}
use Rattle.xdg_types.specs.Table.{Table, typed}
use Rattle.xdg_packed.specs.Lexicon.{Record, Entry, word_of, places_of}

-- the type of a dimension's records
abbrev pub record_type : DimType → Shape
record_type dim = fields (fields_of (typed dim.fields))

-- the dimension with that place among the used ones
abbrev pub IsUsed : Table → ℕ → DimType → Type 0
IsUsed table d dim = (k : ℕ) × ((slice_get table.used d ≡ Some k) × (slice_get table.dims k ≡ Some dim))

-- the record has a value for each feature of the dimension, and all defaults are filled in
abbrev pub IsWhole : DimType → Record → Type 0
IsWhole dim m = IsValue (record_type dim) (v.Rec m) × IsFilled (record_type dim) (v.Rec m)

-- an entry of a grammar with these types
pub record IsEntry (table : Table) (entry : Entry) : Type 0 where
  pub count : length entry ≡ length table.used
  pub each : (d : ℕ) (dim : DimType) → IsUsed table d dim → IsWhole dim (get_or entry d [])

abbrev pub AreEntries : Table → List Entry → Type 0
AreEntries table [] = Unit {0}
AreEntries table (entry ∷ entries) = IsEntry table entry × AreEntries table entries

-- where entries say their words: the place of dimension `lex` among the used ones, and that of its feature `word`
pub record IsWordPlace (table : Table) (dim field : ℕ) : Type 0 where
  pub lex : DimType
  pub used : IsUsed table dim lex
  pub name : lex.name ≡ codes "lex"
  pub word : slice_get (typed lex.fields) field ≡ Some (codes "word", text)

-- how many of the entries have that word
abbrev pub count_of : ℕ → ℕ → List Entry → List ℕ → ℕ
count_of dim field entries word = length (places_of (map (word_of dim field) entries) word)

-- the entries of a lexicon, within the limits: at most 65,536, and at most 1,024 of one word
pub record IsRightLexicon (table : Table) (given : List Entry) : Type 0 where
  pub entries : AreEntries table given
  pub few : length given ≤ 65536
  pub each : (dim field : ℕ) → IsWordPlace table dim field → (word : List ℕ) → count_of dim field given word ≤ 1024

-- the place, where there is one
abbrev pub TellsWordPlace : Table → Option (ℕ × ℕ) → Type 0
TellsWordPlace table None = (dim field : ℕ) → IsWordPlace table dim field → ⊥
TellsWordPlace table (Some place) = IsWordPlace table place.0 place.1

-- A packed lexicon to which entries are added.
use Rattle.std.specs.Prelude.{◌≡◌, ℕ, ◌<◌, ◌≤◌, List, [], length, get_or}
use Rattle.xdg_types.specs.Table.{Table}
use Rattle.xdg_packed.specs.Lexicon.{Entry, Lexicon, word_of}
use Rattle.xdg_packed.specs.Entries.{AreEntries, IsWordPlace, count_of}
use Rattle.xdg_lexicon.specs.declared.growing.Growing.{Growing}

-- the entries so far
abbrev pub entries_in : Growing → List Entry
entries_in growing = growing.packing.entries

-- entries of a grammar with these types, whose words stand where the grammar says them, and no word has more entries than the number
-- beside them says
pub record IsRightGrowing (table : Table) (growing : Growing) : Type 0 where
  pub right : AreEntries table growing.packing.entries
  pub place : IsWordPlace table growing.packing.dim growing.packing.field
  pub bound : (word : List ℕ) → count_of growing.packing.dim growing.packing.field growing.packing.entries word ≤ growing.most

-- how many entries have the word of the entry with that number
abbrev pub count_at : Lexicon → ℕ → ℕ
count_at lexicon n = count_of lexicon.dim lexicon.field lexicon.entries (word_of lexicon.dim lexicon.field (get_or lexicon.entries n []))

-- the first of the entries whose word has more than 1,024 of them, and how many that word has
pub record IsFirstCrowded (lexicon : Lexicon) (reached : ℕ) : Type 0 where
  pub first : ℕ
  pub within : first < length lexicon.entries
  pub reached_is : reached ≡ count_at lexicon first
  pub many : 1024 < reached
  pub before : (j : ℕ) → j < first → count_at lexicon j ≤ 1024

-- Packed lexicons, and lexicons while they are packed.
use Rattle.std.specs.Prelude.{◌≡◌, ◌⊎◌, ℕ, ◌≤◌, ◌-◌, ◌^◌, List, [], ◌∷◌, ◌++◌, length, get_or, map, All}
use Rattle.std.specs.List.{range_with_len}
use Rattle.xdg_base.specs.declared.ids.EntryNo.{EntryNo}
use Rattle.xdg_packed.specs.Lexicon.{Entry, Lexicon, HasWord, AreAsLong, columns, words_of, CountsRows}
use Rattle.xdg_packed.specs.Tables.{records, no_table, IsRight, AreTables, AreKeys}
use Rattle.xdg_packed.specs.Words.{IsWordIndex}
use Rattle.xdg_packed.specs.declared.entry_set.EntrySet.{EntrySet}
use Rattle.xdg_packed.specs.declared.table.Table.{Table}
use Rattle.xdg_packed.specs.declared.words.WordIndex.{WordIndex}
use Rattle.xdg_facts.specs.Membership.{In}

-- each entry has a word and as many records as the others, and there are at most 4,294,967,295 entries
pub record IsLexicon (lexicon : Lexicon) : Type 0 where
  pub words : All (HasWord lexicon.dim lexicon.field) lexicon.entries
  pub equal : AreAsLong lexicon.entries
  pub few : length lexicon.entries ≤ 2 ^ 32 - 1

-- so many entries, given the tables
abbrev pub unpacked : List Table → ℕ → List Entry
unpacked tables count = map (λ no. map (λ table. get_or (records table) no []) tables) (range_with_len 0 count)

-- The tables are those of the records of each dimension, the index is that of the words, and the rows are counted.
pub record IsPacked (lexicon : Lexicon) (tables : List Table) (rows : ℕ) (words : List (List ℕ)) (numbers : List (List EntryNo)) : Type 0 where
  pub right : IsLexicon lexicon
  pub tables_right : (dim : ℕ) → IsRight (get_or tables dim no_table)
  pub tables_are : map records tables ≡ columns lexicon.entries
  pub counted : CountsRows (map records tables) rows
  pub indexed : IsWordIndex (words_of lexicon) words numbers

-- ---- entries that are kept once

-- the entries
abbrev pub kept : EntrySet → List Entry
kept set = unpacked set.tables.tables.items set.count

-- The tables are those of the records of each dimension, with the spellings of the rows, the rows are counted, and each entry has its
-- key, all different.
pub record AreKept (entries : List Entry) (set : EntrySet) : Type 0 where
  pub equal : AreAsLong entries
  pub few : length entries ≤ 2 ^ 32 - 1
  pub tables_are : map records set.tables.tables.items ≡ columns entries
  pub spelled : AreTables set.tables.tables.items set.tables.spellings.items
  pub counted : CountsRows (map records set.tables.tables.items) set.rows
  pub keyed : AreKeys set.tables.tables.items set.keys (length entries)

-- these are the entries of the lexicon so far, each of which has a word, and the index is that of the words
pub record IsPacking (lexicon : Lexicon) (set : EntrySet) (index : WordIndex) : Type 0 where
  pub entries : AreKept lexicon.entries set
  pub words : All (HasWord lexicon.dim lexicon.field) lexicon.entries
  pub indexed : IsWordIndex (words_of lexicon) index.words index.numbers.items

-- how an entry changes a list: it stood there, or it goes last
abbrev pub Puts : List Entry → Entry → List Entry → Type 0
Puts before e after = (In before e × (after ≡ before)) ⊎ ((In before e → ⊥) × (after ≡ before ++ e ∷ []))

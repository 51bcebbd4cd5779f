-- Lexicons: the entries in order, each with a record for each used dimension, the words of the entries, and how many different
-- records there are.
use Rattle.std.specs.Prelude.{◌≡◌, ℕ, ◌+◌, ◌<◌, ◌≤◌, List, [], ◌∷◌, length, get_or, map, filter, Option, None, Some, All, bytes_eq}
use Rattle.std.specs.List.{range_with_len}
use Rattle.xdg_base.specs.declared.ids.EntryNo.{EntryNo}
use Rattle.xdg_domain.specs.Valencies.{said_at}
use Rattle.xdg_domain.specs.declared.values.Value.{Value, out-Value}
use Rattle.xdg_domain.specs.declared.values.Value.TheOpen.{Value-F}
use Rattle.xdg_facts.specs.Membership.{Differ, In}

-- what is said of one dimension: the fields that are said, each with the place of its field
abbrev pub Record : Type 0
Record = List (ℕ × Value)

-- a record for each used dimension
abbrev pub Entry : Type 0
Entry = List Record

-- the entries, and where they say their words: for that field of the record of that dimension
pub record Lexicon : Type 0 where
  pub entries : List Entry
  pub dim : ℕ
  pub field : ℕ

-- ---- words

abbrev pub text_in : Value-F Value → List ℕ
text_in (Value-F.Str text) = text
text_in _ = []

abbrev pub text_of : Option Value → List ℕ
text_of None = []
text_of (Some value) = text_in (out-Value value)

-- the text that a record says for a field
abbrev pub said_in : Record → ℕ → List ℕ
said_in fields field = text_of (said_at fields field)

abbrev pub IsTextIn : Value-F Value → Type 0
IsTextIn (Value-F.Str text) = Unit {0}
IsTextIn _ = ⊥

abbrev pub IsText : Option Value → Type 0
IsText None = ⊥
IsText (Some value) = IsTextIn (out-Value value)

-- the record says a text for the field
abbrev pub IsSaid : Record → ℕ → Type 0
IsSaid fields field = IsText (said_at fields field)

-- the word of an entry: the text that it says for that field of that dimension
abbrev pub word_of : ℕ → ℕ → Entry → List ℕ
word_of dim field entry = said_in (get_or entry dim []) field

-- the entry has a word
abbrev pub HasWord : ℕ → ℕ → Entry → Type 0
HasWord dim field entry = IsSaid (get_or entry dim []) field

-- the words of the entries, in order
abbrev pub words_of : Lexicon → List (List ℕ)
words_of lexicon = map (word_of lexicon.dim lexicon.field) lexicon.entries

abbrev pub number : ℕ → EntryNo
number n = record { 0 = n }

-- the places at which a word stands among words, rising, from 0
abbrev pub places_of : List (List ℕ) → List ℕ → List ℕ
places_of words word = filter (λ place. bytes_eq (get_or words place []) word) (range_with_len 0 (length words))

-- the same as numbers of entries
abbrev pub numbers_of : List (List ℕ) → List ℕ → List EntryNo
numbers_of words word = map number (places_of words word)

-- ---- records

-- how many records the first entry has
abbrev pub width : List Entry → ℕ
width [] = 0
width (entry ∷ entries) = length entry

-- all entries have equally many records
abbrev pub AreAsLong : List Entry → Type 0
AreAsLong entries = All (λ entry. length entry ≡ width entries) entries

-- what the entries say in one dimension: their records of it, one for each entry
abbrev pub column : ℕ → List Entry → List Record
column dim entries = map (λ entry. get_or entry dim []) entries

-- the same of each dimension
abbrev pub columns : List Entry → List (List Record)
columns entries = map (λ dim. column dim entries) (range_with_len 0 (width entries))

-- The first entry that says in a dimension what the entry with that number says: its record of it is that entry's, and no entry
-- with a smaller number has that record there.
pub record IsFirstAlike (lexicon : Lexicon) (dim number first : ℕ) : Type 0 where
  pub alike : get_or (get_or lexicon.entries first []) dim [] ≡ get_or (get_or lexicon.entries number []) dim []
  pub least : (other : ℕ) → other < length lexicon.entries → get_or (get_or lexicon.entries other []) dim [] ≡ get_or (get_or lexicon.entries number []) dim []
      → first ≤ other

-- The second list keeps each of the different elements of the first once: none stands twice, and the same elements stand in
-- both.
pub record KeepsEachOnce {A : Type 0} (all kept : List A) : Type 0 where
  pub once : Differ kept
  pub each : (x : A) → In all x → In kept x
  pub only : (x : A) → In kept x → In all x

-- so many different elements stand in the list
abbrev pub CountsDifferent : {A : Type 0} → List A → ℕ → Type 0
CountsDifferent {A} all count = (kept : List A) × KeepsEachOnce all kept × (length kept ≡ count)

-- so many different records stand in these lists, one for each dimension, each list counted by itself
abbrev pub CountsRows : List (List Record) → ℕ → Type 0
CountsRows [] count = count ≡ 0
CountsRows (all ∷ more) count = (here : ℕ) × (later : ℕ) × CountsDifferent all here × CountsRows more later × (count ≡ here + later)

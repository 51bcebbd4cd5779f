-- The expanded lexicon.
use Rattle.std.specs.Prelude.{◌≡◌, ℕ, ◌+◌, ◌<◌, ◌≤◌, List, [], ◌∷◌, ◌++◌, length, get_or, slice_get, Option, None, Some}
use Rattle.xdg_base.specs.declared.faults.Cause.{Cause}
use Rattle.xdg_base.specs.declared.faults.Cause.TheVariants as causes
use Rattle.xdg_base.specs.declared.faults.Fault.{Fault}
use Rattle.xdg_domain.specs.Shapes.{fields_of}
use Rattle.xdg_packed.specs.Filled.{filled_fields}
use Rattle.xdg_types.specs.declared.table.DimType.{DimType}
use Rattle.xdg_types.specs.Table.{Table, typed}
use Rattle.xdg_packed.specs.Lexicon.{Record, Entry, word_of}
use Rattle.xdg_classes.specs.Bodies.{Body}
use Rattle.xdg_check.specs.Counts.{uses, combos}
use Rattle.xdg_facts.specs.Capped.{capped}
use Rattle.xdg_lexicon.specs.Partial.{Partial, said_of}
use Rattle.xdg_lexicon.specs.Denotes.{Denotes}
use Rattle.xdg_packed.specs.Entries.{IsWordPlace, count_of}
use Rattle.xdg_lexicon.specs.Sources.{Source, HasNumber}
use Rattle.xdg_facts.specs.Membership.{In}
use Rattle.xdg_base.specs.Faults.{fault_at, fault_reaching}

-- ---- from partial entries to entries

-- what is said of a dimension, with all defaults; None where a plain feature is unsaid
abbrev pub whole_record : Option DimType → Record → Option Record
whole_record None m = None
whole_record (Some dim) m = filled_fields 0 (fields_of (typed dim.fields)) m

abbrev pub record_then : Option Record → Option Entry → Option Entry
record_then (Some m) (Some entry) = Some (m ∷ entry)
record_then _ _ = None

-- The records of the dimensions with these places, with all defaults.
abbrev pub records_of : List DimType → Partial → List ℕ → Option Entry
records_of dims p [] = Some []
records_of dims p (k ∷ ks) = record_then (whole_record (slice_get dims k) (said_of p k)) (records_of dims p ks)

-- what a partial entry says of the used dimensions, with all defaults; None where a plain feature of one is unsaid
abbrev pub whole : Table → Partial → Option Entry
whole table p = records_of table.dims p table.used

-- each of the partial entries is whole, and these are the entries
abbrev pub AreWhole : Table → List Partial → List Entry → Type 0
AreWhole table [] [] = Unit {0}
AreWhole table (p ∷ ps) (e ∷ es) = (whole table p ≡ Some e) × AreWhole table ps es
AreWhole table _ _ = ⊥

-- Entries are added behind those that are known, in their order, without those that stand there already.
pub data Adds : List Entry → List Entry → List Entry → Type 0 where
  nothing_more : (known : List Entry) → Adds known [] known
  known_before : (known more all : List Entry) (e : Entry) → In known e → Adds known more all → Adds known (e ∷ more) all
  new : (known more all : List Entry) (e : Entry) → (In known e → ⊥) → Adds (known ++ e ∷ []) more all → Adds known (e ∷ more) all

-- ---- `defentry` by `defentry`

-- what the bodies so far came to: their uses of classes and their combinations, and the lexicon
pub record SoFar : Type 0 where
  pub uses : ℕ
  pub combos : ℕ
  pub entries : List Entry

abbrev pub nothing_yet : SoFar
nothing_yet = record { uses = 0; combos = 0; entries = [] }

-- a number of one body, and the sum with those before it, are within the limits
abbrev pub IsWithinLimits : ℕ → ℕ → Type 0
IsWithinLimits before n = (n ≤ 65536) × (before + n ≤ 1048576)

-- the body has so many uses of classes and combinations, both within the limits
pub record IsCounted (source : Source) (before : SoFar) (b : Body) : Type 0 where
  pub uses_of : ℕ
  pub has_uses : HasNumber uses source.classes b uses_of
  pub few_uses : IsWithinLimits before.uses uses_of
  pub combos_of : ℕ
  pub has_combos : HasNumber combos source.classes b combos_of
  pub few_combos : IsWithinLimits before.combos combos_of

-- the members of the body, each whole, and the lexicon with them
pub record IsExpanded (source : Source) (before : SoFar) (b : Body) (all : List Entry) : Type 0 where
  pub members : List Partial
  pub denotes : Denotes source.table.dims source.classes [] b members
  pub made : List Entry
  pub whole_each : AreWhole source.table members made
  pub added : Adds before.entries made all

-- no word has more than 1,024 of the entries
abbrev pub AreFewEach : Table → List Entry → Type 0
AreFewEach table entries = (dim field : ℕ) → IsWordPlace table dim field → (word : List ℕ) → count_of dim field entries word ≤ 1024

-- one `defentry` is expanded within all limits
pub record Expands (source : Source) (before : SoFar) (b : Body) (after : SoFar) : Type 0 where
  pub counted : IsCounted source before b
  pub uses_are : after.uses ≡ before.uses + counted.uses_of
  pub combos_are : after.combos ≡ before.combos + counted.combos_of
  pub expanded : IsExpanded source before b after.entries
  pub few : length after.entries ≤ 65536
  pub few_each : AreFewEach source.table after.entries

-- these bodies are expanded, one after the other
pub data ExpandsAll (source : Source) : SoFar → List (ℕ × Body) → SoFar → Type 0 where
  no_more : (so : SoFar) → ExpandsAll source so [] so
  one_more : (before mid after : SoFar) (one : ℕ × Body) (rest : List (ℕ × Body)) → Expands source before one.1 mid → ExpandsAll source mid rest after
      → ExpandsAll source before (one ∷ rest) after

-- The expanded lexicon: the different members of all `defentry` in the order of the text.
abbrev pub IsLexicon : Source → List Entry → Type 0
IsLexicon source entries = (last : SoFar) × (ExpandsAll source nothing_yet source.entries last × (last.entries ≡ entries))

-- ---- limits that are passed

abbrev pub reaching_most : Cause → ℕ → ℕ → Fault
reaching_most cause at reached = fault_reaching cause at (capped reached)

-- a number of one body passes the limit, or else the sum with those before it does
pub data IsTooMany (cause : Cause) (at before n : ℕ) (f : Fault) : Type 0 where
  alone : 65536 < n → f ≡ reaching_most cause at n → IsTooMany cause at before n f
  together : n ≤ 65536 → 1048576 < before + n → f ≡ reaching_most cause at (before + n) → IsTooMany cause at before n f

-- the first of the entries whose word has more than 1,024 of them, and how many that word has
pub record IsCrowded (table : Table) (entries : List Entry) (reached : ℕ) : Type 0 where
  pub dim : ℕ
  pub field : ℕ
  pub words : IsWordPlace table dim field
  pub first : ℕ
  pub within : first < length entries
  pub reached_is : reached ≡ count_of dim field entries (word_of dim field (get_or entries first []))
  pub many : 1024 < reached
  pub before : (j : ℕ) → j < first → count_of dim field entries (word_of dim field (get_or entries j [])) ≤ 1024

-- What is wrong with one `defentry` behind those that were expanded, in the order in which it is looked for.
pub data OffendsAt (source : Source) (before : SoFar) (one : ℕ × Body) (f : Fault) : Type 0 where
  -- too many unfolded uses of classes
  many_uses : (n : ℕ) → HasNumber uses source.classes one.1 n → IsTooMany causes.TooManyUses one.0 before.uses n f → OffendsAt source before one f
  -- too many combinations
  many_combos : (u n : ℕ) → HasNumber uses source.classes one.1 u → IsWithinLimits before.uses u → HasNumber combos source.classes one.1 n
      → IsTooMany causes.TooManyEntries one.0 before.combos n f → OffendsAt source before one f
  -- a member that leaves a plain feature of a used dimension unsaid
  unsaid : (ms : List Partial) (p : Partial) → IsCounted source before one.1 → Denotes source.table.dims source.classes [] one.1 ms → In ms p
      → whole source.table p ≡ None
      → f ≡ fault_at causes.MissingArg one.0 → OffendsAt source before one f
  -- too many entries
  many_entries : (all : List Entry) → IsCounted source before one.1 → IsExpanded source before one.1 all → 65536 < length all
      → f ≡ reaching_most causes.TooManyEntries one.0 (length all) → OffendsAt source before one f
  -- too many entries of one word
  many_of_word : (all : List Entry) (reached : ℕ) → IsCounted source before one.1 → IsExpanded source before one.1 all → length all ≤ 65536
      → IsCrowded source.table all reached
      → f ≡ reaching_most causes.TooManyEntries one.0 reached → OffendsAt source before one f

-- the first `defentry` with which something is wrong, those before it being expanded
pub record Refuses (source : Source) (f : Fault) : Type 0 where
  pub front : List (ℕ × Body)
  pub one : ℕ × Body
  pub rest : List (ℕ × Body)
  pub are : source.entries ≡ front ++ one ∷ rest
  pub so_far : SoFar
  pub expanded : ExpandsAll source nothing_yet front so_far
  pub offends : OffendsAt source so_far one f

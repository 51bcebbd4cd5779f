-- The features of entries by places: what `Features` and `Groups` say of a principle use, once its dimension and its arguments
-- are known by number.
use Rattle.std.specs.Prelude.{◌≡◌, ℕ, ◌<◌, List, [], ◌∷◌, map, get_or}
use Rattle.xdg_base.specs.declared.ids.EntryNo.{EntryNo}
use Rattle.xdg_domain.specs.Valencies.{said_at}
use Rattle.xdg_packed.specs.Lexicon.{Record, Entry}
use Rattle.xdg_problem.specs.declared.parts.Feat.{Feat}
use Rattle.xdg_principles.specs.declared.building.Arg.{Arg}
use Rattle.xdg_principles.specs.declared.building.Arg.TheVariants as g
use Rattle.xdg_build.specs.Features.{rows_of}

-- the feature with that place, as a record has it
abbrev pub feature_in : Record → ℕ → Feat
feature_in fields place = record { rows = rows_of (said_at fields place) }

-- the features with these places, as a record has them
abbrev pub features_in_record : List ℕ → Record → List Feat
features_in_record places fields = map (feature_in fields) places

-- the record of a used dimension, as the entry with that number has it
abbrev pub record_of : List Entry → ℕ → ℕ → Record
record_of entries dim number = get_or (get_or entries number []) dim []

-- Under each of these numbers stand the features of the record of the entry with that number.
abbrev pub AreKept : List Entry → ℕ → List ℕ → List (ℕ × List Feat) → Type 0
AreKept entries dim places [] = Unit {0}
AreKept entries dim places (one ∷ more) = (one.1 ≡ features_in_record places (record_of entries dim one.0)) × AreKept entries dim places more

-- the features with these places of each of these entries, for the record of one used dimension
abbrev pub features_by_number : List Entry → ℕ → List ℕ → List EntryNo → List (List Feat)
features_by_number entries dim places numbers = map (λ entry. features_in_record places (record_of entries dim entry.0)) numbers

-- the place of an attribute that an argument names fits a byte
abbrev pub IsSmallArg : Arg → Type 0
IsSmallArg (g.Attr k) = k < 256
IsSmallArg _ = Unit {0}

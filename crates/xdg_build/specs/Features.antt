-- The features of an entry as numbers.
use Rattle.std.specs.Prelude.{ℕ, List, [], ◌∷◌, map, get_or, Option, None, Some}
use Rattle.xdg_domain.specs.Valencies.{said_at}
use Rattle.xdg_domain.specs.declared.values.Value.{Value, out-Value}
use Rattle.xdg_domain.specs.declared.values.Value.TheOpen.{Value-F}
use Rattle.xdg_packed.specs.Lexicon.{Entry}
use Rattle.xdg_problem.specs.declared.parts.Feat.{Feat}
use Rattle.xdg_types.specs.Table.{Table}
use Rattle.xdg_build.specs.Grammars.{used_place}

-- the members of a set, by their numbers
abbrev pub members_in : Value-F Value → List ℕ
members_in (Value-F.Set ns) = ns
members_in _ = []

-- a set has one row, its members; a valency has for each label a row, the numbers of its cardinality; a map the members of
-- its set
abbrev pub rows_in : Value-F Value → List (List ℕ)
rows_in (Value-F.Set ns) = ns ∷ []
rows_in (Value-F.Valency m) = map (λ said. said.1) m
rows_in (Value-F.Map m) = map (λ said. members_in (out-Value said.1)) m
rows_in _ = []

abbrev pub rows_of : Option Value → List (List ℕ)
rows_of None = []
rows_of (Some v) = rows_in (out-Value v)

-- the feature with that place of the dimension with that place among all, as an entry has it
abbrev pub feature : Table → Entry → ℕ → ℕ → Feat
feature table entry dim place = record { rows = rows_of (said_at (get_or entry (used_place table dim) []) place) }

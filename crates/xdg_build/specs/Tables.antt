-- For which candidates an atom about a feature is true.
use Rattle.std.specs.Prelude.{ℕ, ◌==◌, Bool, false, List, [], map, get_or, Option, None, Some}
use Rattle.xdg_base.specs.declared.ids.EntryNo.{EntryNo}
use Rattle.xdg_domain.specs.Valencies.{said_at}
use Rattle.xdg_domain.specs.declared.values.Value.{Value, out-Value}
use Rattle.xdg_domain.specs.declared.values.Value.TheOpen.{Value-F}
use Rattle.xdg_packed.specs.Lexicon.{Entry}
use Rattle.xdg_facts.specs.Rises.{has}

-- a value is the one with that number, or a set that has it
abbrev pub is_or_has : Value-F Value → ℕ → Bool
is_or_has (Value-F.Const n) number = n == number
is_or_has (Value-F.Tuple n) number = n == number
is_or_has (Value-F.Set ns) number = has ns number
is_or_has _ number = false

-- the same where a value is said
abbrev pub says_in : Option Value → ℕ → Bool
says_in None number = false
says_in (Some v) number = is_or_has (out-Value v) number

-- the entry with that number says so of a feature, by the places of its dimension among the used ones and of the feature
abbrev pub entry_says : List Entry → ℕ → ℕ → ℕ → EntryNo → Bool
entry_says entries dim place number entry = says_in (said_at (get_or (get_or entries entry.0 []) dim []) place) number

-- for each node, and in it for each candidate
abbrev pub table_of : List Entry → List (List EntryNo) → ℕ → ℕ → ℕ → List (List Bool)
table_of entries candidates dim place number = map (map (entry_says entries dim place number)) candidates

-- ---- numbers of values

-- the number of a constant or a tuple
abbrev pub number_in : Value-F Value → ℕ
number_in (Value-F.Const n) = n
number_in (Value-F.Tuple n) = n
number_in _ = 0

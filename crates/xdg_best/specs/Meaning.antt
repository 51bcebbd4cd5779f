-- What statements come to, and what is wrong with them.
use Rattle.std.specs.Prelude.{◌≡◌, ℕ, ◌-◌, ◌⊎◌, ◌==◌, ◌&&◌, ◌||◌, Bool, false, nat_lt, if◌then◌else◌, Option, Some, None, Result, Ok, Err, List, [], ◌∷◌, ◌++◌}
use Rattle.std.specs.List.{list_any}
use Rattle.xdg_base.specs.Faults.{fault_at}
use Rattle.xdg_base.specs.declared.faults.Fault.{Fault}
use Rattle.xdg_base.specs.declared.faults.Cause.TheVariants as causes
use Rattle.xdg_base.specs.declared.ids.DimId.{DimId}
use Rattle.xdg_base.specs.declared.ids.EntryNo.{EntryNo}
use Rattle.xdg_base.specs.declared.ids.LabelId.{LabelId}
use Rattle.xdg_ast.specs.declared.names.Name.{Name}
use Rattle.xdg_ast.specs.declared.names.Num.{Num}
use Rattle.xdg_problem.specs.Costs.{CostLists}
use Rattle.xdg_types.specs.Table.{Table}
use Rattle.xdg_best.specs.declared.statements.Statement.{Statement}
use Rattle.xdg_best.specs.declared.statements.Statement.TheVariants as statements
use Rattle.xdg_best.specs.Naming.{Place, place_of}

-- ---- what they come to

-- the costs of entries, whose numbers count from 1 in the text and from 0 in memory
abbrev pub entry_costs : List Statement → List (EntryNo × ℕ)
entry_costs [] = []
entry_costs (statements.Entry number cost ∷ more) = (record { 0 = number.value - 1 }, cost) ∷ entry_costs more
entry_costs (statements.Edge dim label cost ∷ more) = entry_costs more

abbrev pub placed : Result Place Fault → ℕ → List (DimId × LabelId × ℕ)
placed (Ok place) cost = (place.0, place.1, cost) ∷ []
placed (Err fault) cost = []

-- the costs of edges
abbrev pub label_costs : Table → List Statement → List (DimId × LabelId × ℕ)
label_costs table [] = []
label_costs table (statements.Entry number cost ∷ more) = label_costs table more
label_costs table (statements.Edge dim label cost ∷ more) = placed (place_of table dim label) cost ++ label_costs table more

abbrev pub costs_of : Table → List Statement → CostLists
costs_of table said = record { entries = entry_costs said; labels = label_costs table said }

-- ---- what is wrong with them

-- the statement is of the entry with a number
abbrev pub is_of_entry : ℕ → Statement → Bool
is_of_entry number (statements.Entry other cost) = other.value == number
is_of_entry number (statements.Edge dim label cost) = false

abbrev pub is_at : Place → Result Place Fault → Bool
is_at place (Ok other) = (other.0.0 == place.0.0) && (other.1.0 == place.1.0)
is_at place (Err fault) = false

-- the statement is of a dimension and a label
abbrev pub is_of_place : Table → Place → Statement → Bool
is_of_place table place (statements.Entry number cost) = false
is_of_place table place (statements.Edge dim label cost) = is_at place (place_of table dim label)

-- a number that is none of an entry, or one that stands in an earlier statement too
abbrev pub entry_fault : ℕ → Num → Bool → Option Fault
entry_fault entries number again =
    if (number.value == 0) || nat_lt entries number.value then Some (fault_at causes.NoEntry number.span.start)
    else (if again then Some (fault_at causes.Twice number.span.start) else None)

-- constants that name no used dimension or no label of it, or those that an earlier statement names too
abbrev pub edge_fault : Table → List Statement → Name → Result Place Fault → Option Fault
edge_fault table earlier label (Err fault) = Some fault
edge_fault table earlier label (Ok place) = if list_any (is_of_place table place) earlier then Some (fault_at causes.Twice label.span.start) else None

-- what is wrong with a statement behind others, where there are so many entries
abbrev pub fault_in : Table → ℕ → List Statement → Statement → Option Fault
fault_in table entries earlier (statements.Entry number cost) = entry_fault entries number (list_any (is_of_entry number.value) earlier)
fault_in table entries earlier (statements.Edge dim label cost) = edge_fault table earlier label (place_of table dim label)

-- a fault of one of the statements behind others
abbrev pub Offends : Table → ℕ → List Statement → List Statement → Fault → Type 0
Offends table entries earlier [] fault = ⊥
Offends table entries earlier (statement ∷ more) fault =
    (fault_in table entries earlier statement ≡ Some fault) ⊎ Offends table entries (earlier ++ statement ∷ []) more fault

abbrev pub or_later : Option Fault → Option Fault → Option Fault
or_later (Some fault) later = Some fault
or_later None later = later

-- the fault of the first statement that has one
unfoldable pub first_fault : Table → ℕ → List Statement → List Statement → Option Fault
first_fault table entries earlier [] = None
first_fault table entries earlier (statement ∷ more) =
    or_later (fault_in table entries earlier statement) (first_fault table entries (earlier ++ statement ∷ []) more)

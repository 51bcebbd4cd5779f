-- The costs that have been said so far.
use Rattle.std.specs.Prelude.{◌≡◌, ℕ, ◌+◌, ◌<◌, ◌==◌, ◌&&◌, Bool, false, Option, Some, None, Result, Ok, Err, List, [], ◌∷◌, ◌++◌, length, slice_index_or}
use Rattle.std.specs.List.{list_any}
use Rattle.xdg_base.specs.declared.faults.Fault.{Fault}
use Rattle.xdg_base.specs.declared.faults.Stop.{Stop}
use Rattle.xdg_base.specs.declared.faults.Stop.TheVariants as stops
use Rattle.xdg_base.specs.declared.ids.DimId.{DimId}
use Rattle.xdg_base.specs.declared.ids.EntryNo.{EntryNo}
use Rattle.xdg_base.specs.declared.ids.LabelId.{LabelId}
use Rattle.xdg_ast.specs.declared.names.Num.{Num}
use Rattle.xdg_problem.specs.Costs.{CostLists, AreCosts}
use Rattle.xdg_types.specs.Table.{Table}
use Rattle.xdg_best.specs.declared.building.Building.{Building}
use Rattle.xdg_best.specs.declared.statements.Statement.{Statement}
use Rattle.xdg_best.specs.Meaning.{entry_costs, label_costs, costs_of, is_of_entry, fault_in}
use Rattle.xdg_best.specs.Naming.{Place}

-- a cost stands among those of entries, or of labels
abbrev pub has_entry : List (EntryNo × ℕ) → ℕ → Bool
has_entry entries entry = list_any (λ one. one.0.0 == entry) entries

abbrev pub has_place : List (DimId × LabelId × ℕ) → Place → Bool
has_place labels place = list_any (λ one. (one.0.0 == place.0.0) && (one.1.0 == place.1.0)) labels

-- an entry of which no cost has been said, by its place from 0
pub record IsFreshPlace (entries : ℕ) (number : Num) (seen : List Bool) (place : ℕ) : Type 0 where
  pub is : number.value ≡ place + 1
  pub within : place < entries
  pub new : slice_index_or seen place false ≡ false

-- what statements said, of so many entries
pub record Built (table : Table) (entries : ℕ) (earlier : List Statement) (made : Building) : Type 0 where
  pub entries_are : made.entries ≡ entry_costs earlier
  pub labels_are : made.labels ≡ label_costs table earlier
  pub count : length made.seen.items ≡ entries
  pub seen_said : (k : ℕ) → k < entries → slice_index_or made.seen.items k false ≡ list_any (is_of_entry (k + 1)) earlier
  pub seen_kept : (k : ℕ) → k < entries → slice_index_or made.seen.items k false ≡ has_entry made.entries k
  pub kept : AreCosts made.entries made.labels

-- a statement is added, or its fault is told
abbrev pub Adds : Table → ℕ → List Statement → Statement → Result (Unit {0}) Stop → Building → Type 0
Adds table entries earlier statement (Ok done) new = (fault_in table entries earlier statement ≡ None) × Built table entries (earlier ++ statement ∷ []) new
Adds table entries earlier statement (Err (stops.Fault fault)) new = fault_in table entries earlier statement ≡ Some fault
Adds table entries earlier statement (Err stops.OutOfMemory) new = Unit {0}

-- what all statements come to: their costs, or the fault where there is one
abbrev pub Comes : Option Fault → Table → List Statement → Result CostLists Stop → Type 0
Comes fault table said (Ok costs) = (fault ≡ None) × (costs ≡ costs_of table said)
Comes fault table said (Err (stops.Fault told)) = fault ≡ Some told
Comes fault table said (Err stops.OutOfMemory) = Unit {0}

-- The dimension and the label that constants name.
use Rattle.std.specs.Prelude.{ℕ, Bool, false, Option, Some, None, Result, Ok, Err, List, bytes_eq, slice_get}
use Rattle.std.specs.List.{position}
use Rattle.xdg_base.specs.Faults.{fault_at}
use Rattle.xdg_base.specs.declared.faults.Fault.{Fault}
use Rattle.xdg_base.specs.declared.faults.Cause.TheVariants as causes
use Rattle.xdg_base.specs.declared.ids.DimId.{DimId}
use Rattle.xdg_base.specs.declared.ids.LabelId.{LabelId}
use Rattle.xdg_ast.specs.declared.names.Name.{Name}
use Rattle.xdg_principles.specs.Settings.{at_place, labels_in}
use Rattle.xdg_reading.specs.Names.{label_number}
use Rattle.xdg_types.specs.declared.table.DimType.{DimType}
use Rattle.xdg_types.specs.Table.{Table}

-- the dimension is there and has the name
abbrev pub has_name : Option DimType → List ℕ → Bool
has_name None name = false
has_name (Some dim) name = bytes_eq dim.name name

abbrev pub is_named : List DimType → List ℕ → ℕ → Bool
is_named dims name place = has_name (slice_get dims place) name

-- the number of the used dimension with a name, where one has it
unfoldable pub place_named : List DimType → List ℕ → List ℕ → Option ℕ
place_named dims used name = position (λ place. is_named dims name place) used

abbrev pub dim_number : Table → List ℕ → Option ℕ
dim_number table name = place_named table.dims table.used name

-- the labels of the used dimension with a number
abbrev pub labels_of : Table → ℕ → List (List ℕ)
labels_of table dim = labels_in (at_place table.dims (slice_get table.used dim))

-- a dimension and a label
abbrev pub Place : Type 0
Place = DimId × LabelId

abbrev pub with_label : Name → ℕ → Option ℕ → Result Place Fault
with_label label d None = Err (fault_at causes.NotMember label.span.start)
with_label label d (Some l) = Ok (record { 0 = d }, record { 0 = l })

abbrev pub with_dim : Table → Name → Name → Option ℕ → Result Place Fault
with_dim table dim label None = Err (fault_at causes.UnknownName dim.span.start)
with_dim table dim label (Some d) = with_label label d (label_number (labels_of table d) label.text)

-- the used dimension and the label of it that two constants name, or what is wrong with the first that names none
abbrev pub place_of : Table → Name → Name → Result Place Fault
place_of table dim label = with_dim table dim label (dim_number table dim.text)

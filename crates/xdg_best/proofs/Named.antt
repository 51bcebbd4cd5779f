-- The numbers of used dimensions and of labels are small.
use Rattle.std.proofs.Common.{◌≡◌, ℕ, zero, suc, ◌<◌, ◌≤◌, List, [], ◌∷◌, length, arith, sym, Some, None}
use Rattle.std.specs.Prelude.{Option, IfSome, slice_get}
use Rattle.std.proofs.lemmas.List.Quantifiers.{position-Some}
use Rattle.xdg_types.specs.declared.table.DimType.{DimType}
use Rattle.xdg_types.specs.Table.{Table, IsTable, KeepDims}
use Rattle.xdg_principles.specs.Settings.{at_place, labels_in}
use Rattle.xdg_best.specs.Naming.{is_named, place_named, labels_of}

pub small_dim : (table : Table) (name : List ℕ) (result : Option ℕ) → IsTable table → result ≡ place_named table.dims table.used name → IfSome result (λ dim. dim < 8)
unfolding place_named
small_dim table name None is e = tt
small_dim table name (Some dim) is e =
    let within = (position-Some (λ place. is_named table.dims name place) table.used dim 0 (sym e)).0 in
    let few = is.few_used in
    omega (arith, within, few)

few_at : (dims : List DimType) → KeepDims dims → (place : ℕ) → length (labels_in (slice_get dims place)) ≤ 32
few_at [] keeps place = omega arith
few_at (dim ∷ dims) keeps zero = keeps.0.few_labels
few_at (dim ∷ dims) keeps (suc place) = few_at dims keeps.1 place

few_in : (dims : List DimType) → KeepDims dims → (place : Option ℕ) → length (labels_in (at_place dims place)) ≤ 32
few_in dims keeps None = omega arith
few_in dims keeps (Some place) = few_at dims keeps place

-- a used dimension has at most 32 labels
pub few_labels : (table : Table) → IsTable table → (dim : ℕ) → length (labels_of table dim) ≤ 32
few_labels table is dim = few_in table.dims is.dims (slice_get table.used dim)

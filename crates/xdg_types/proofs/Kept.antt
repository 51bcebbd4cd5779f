-- What a table keeps, at a place of it.
use Rattle.std.proofs.Common.{◌≡◌, ℕ, ◌<◌, List, [], ◌∷◌, length, get_or, Some, sym}
use Rattle.std.specs.Prelude.{slice_get}
use Rattle.std.proofs.lemmas.Option.{get_or_from_slice_get, slice_get_within}
use Rattle.xdg_domain.specs.Shapes.{fields_of, AreTypes}
use Rattle.xdg_types.specs.declared.table.DimType.{DimType}
use Rattle.xdg_types.specs.Table.{Typed, AreFeatures, KeepsDim, KeepDims, ArePlaces}
use Rattle.xdg_facts.proofs.Each.{at_place}

pub keeps_at : (dims : List DimType) (k : ℕ) (dim : DimType) → KeepDims dims → k < length dims → dim ≡ get_or dims k dim → KeepsDim dim
keeps_at = at_place KeepDims KeepsDim (λ _ _ h. h)

pub keeps_found : (dims : List DimType) (k : ℕ) (dim : DimType) → slice_get dims k ≡ Some dim → KeepDims dims → KeepsDim dim
keeps_found dims k dim is keeps = keeps_at dims k dim keeps (slice_get_within dims k dim is) (sym (get_or_from_slice_get dims k dim dim is))

pub place_below : (bound : ℕ) (ks : List ℕ) (i k : ℕ) → ArePlaces bound ks → i < length ks → k ≡ get_or ks i k → k < bound
place_below bound = at_place (ArePlaces bound) (λ k. k < bound) (λ _ _ h. (h.0.0, h.1))

-- the features that a dimension keeps have types
pub types_of : (all : Typed) → AreFeatures all → AreTypes (fields_of all)
types_of [] h = tt
types_of (one ∷ more) h = (h.0, types_of more h.1)

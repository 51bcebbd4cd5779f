-- What it gives to read a list at a place that it may not have.
use Rattle.std.proofs.Common.{◌≡◌, ℕ, List, sym, ◌∙◌, ap, Some, None}
use Rattle.std.specs.Prelude.{slice_get, slice_index_or}
use Rattle.std.proofs.lemmas.Option.{get_or_from_slice_get, unwrap_or-slice_get}
use Rattle.std.specs.Option.{unwrap_or}

pub read_some : {X : Type 0} (xs : List X) (i : ℕ) (x d : X) → Some x ≡ slice_get xs i → slice_index_or xs i d ≡ x
read_some xs i x d h = get_or_from_slice_get xs i x d (sym h)

pub read_none : {X : Type 0} (xs : List X) (i : ℕ) (d : X) → None ≡ slice_get xs i → slice_index_or xs i d ≡ d
read_none xs i d h = sym (unwrap_or-slice_get xs i d) ∙ ap (λ o. unwrap_or o d) (sym h)

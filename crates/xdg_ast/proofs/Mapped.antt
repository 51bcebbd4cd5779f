-- Two lists with the same images have the same image at each place.
use Rattle.std.proofs.Common.{◌≡◌, ℕ, ◌<◌, false, List, length, map, ap}
use Rattle.std.specs.Prelude.{◌↔◌, IsTrue, Bool, slice_index_or}
use Rattle.xdg_ast.specs.declared.names.Pair.{Pair}
use Rattle.xdg_ast.specs.declared.names.Spanned.{Spanned}
use Rattle.xdg_ast.specs.Same.{bare_part, bare_name, bare_pair, nowhere}
use Rattle.xdg_facts.proofs.Mapped.{differ_by}

-- a part without a place, by its kind
abbrev part_of : {A : Type 0} → A → Spanned A
part_of kind = record { kind = kind; span = nowhere }

-- parts are the same if their kinds are
pub parts_of_kinds : {A : Type 0} (k : A → A) (x y : Spanned A) (same : Bool) → (IsTrue same ↔ (k x.kind ≡ k y.kind)) → IsTrue same ↔ (bare_part k x ≡ bare_part k y)
parts_of_kinds k x y same told = (λ t. ap part_of (told.0 t), λ h. told.1 (ap (λ p. p.kind) h))

-- lists of parts that differ in their kinds at a place
pub differ_part_at : {A : Type 0} (k : A → A) (xs ys : List (Spanned A)) (at : ℕ) (d e : Spanned A) (same : Bool) → at < length xs
    → (IsTrue same ↔ (k (slice_index_or xs at d).kind ≡ k (slice_index_or ys at e).kind)) → same ≡ false → IsTrue false ↔ (map (bare_part k) xs ≡ map (bare_part k) ys)
differ_part_at k = differ_by (bare_part k) (λ part. part.kind)

-- lists of pairs that differ in their keys at a place
pub differ_key_at : {A : Type 0} (value : A → A) (xs ys : List (Pair A)) (at : ℕ) (d e : Pair A) (same : Bool) → at < length xs
    → (IsTrue same ↔ (bare_name (slice_index_or xs at d).key ≡ bare_name (slice_index_or ys at e).key)) → same ≡ false → IsTrue false ↔ (map (bare_pair value) xs ≡ map (bare_pair value) ys)
differ_key_at value = differ_by (bare_pair value) (λ pair. pair.key)

-- lists of pairs that differ in the kinds of their values at a place
pub differ_value_at : {A : Type 0} (k : A → A) (xs ys : List (Pair (Spanned A))) (at : ℕ) (d e : Pair (Spanned A)) (same : Bool) → at < length xs
    → (IsTrue same ↔ (k (slice_index_or xs at d).value.kind ≡ k (slice_index_or ys at e).value.kind)) → same ≡ false → IsTrue false ↔ (map (bare_pair (bare_part k)) xs ≡ map (bare_pair (bare_part k)) ys)
differ_value_at k = differ_by (bare_pair (bare_part k)) (λ pair. pair.value.kind)

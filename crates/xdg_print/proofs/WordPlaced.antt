-- The place of the words is that which looking for it gives.
use Rattle.std.proofs.Common.{◌≡◌, ℕ, zero, suc, ◌+◌, List, [], ◌∷◌, Bool, true, false, cond, slice_get, Option, Some, None, codes, refl, sym, ap, ap₂, ◌∙◌, subst, true≢false, arith}
use Rattle.std.specs.List.{position_from}
use Rattle.std.specs.Str.{bytes_eq}
use Rattle.std.proofs.lemmas.Bool.{and_parts}
use Rattle.std.proofs.lemmas.Option.{get_or_from_slice_get}
use Rattle.std.proofs.lemmas.Slice.Eq.{bytes_eq-Decides}
use Rattle.xdg_domain.specs.Shapes.{Shape, text}
use Rattle.xdg_types.specs.declared.table.DimType.{DimType}
use Rattle.xdg_types.specs.Table.{Table, typed, IsTable}
use Rattle.xdg_packed.specs.Entries.{IsUsed, TellsWordPlace}
use Rattle.xdg_packed.proofs.OfTable.{used_once, told_once}
use Rattle.xdg_print.specs.WordPlaces.{is_text, is_word, is_lex, features, with_field, in_dim, place_of_word}

-- ---- the first that passes a test

-- an element that passes, and its place
abbrev Passes : {X : Type 0} → (X → Bool) → List X → ℕ → Type 0
Passes {X} test xs k = (x : X) × ((slice_get xs k ≡ Some x) × (test x ≡ true))

-- none passes, or one does at that place, counted from i
abbrev Tells : {X : Type 0} → (X → Bool) → List X → ℕ → Option ℕ → Type 0
Tells test xs i None = (k : ℕ) → Passes test xs k → ⊥
Tells test xs i (Some j) = (k : ℕ) × ((j ≡ i + k) × Passes test xs k)

first_by : {X : Type 0} (test : X → Bool) (x : X) (xs : List X) (i : ℕ) (b : Bool) (o : Option ℕ) → test x ≡ b → Tells test xs (i + 1) o → Tells test (x ∷ xs) i (cond b (Some i) o)
first_by test x xs i true o passes later = (0, (omega arith, (x, (refl, passes))))
first_by test x xs i false None fails later = by
  where
    by : (k : ℕ) → Passes test (x ∷ xs) k → ⊥
    by zero h = let at = h.1.0 in let same : x ≡ h.0 = cc in true≢false (sym h.1.1 ∙ ap test (sym same) ∙ fails)
    by (suc k) h = later k h
first_by test x xs i false (Some j) fails later = let at = later.1.0 in (suc later.0, (omega (arith, at), later.1.1))

first_told : {X : Type 0} (test : X → Bool) (xs : List X) (i : ℕ) → Tells test xs i (position_from test i xs)
first_told test [] i = λ k h. (let at = h.1.0 in cc)
first_told test (x ∷ xs) i = first_by test x xs i (test x) (position_from test (i + 1) xs) refl (first_told test xs (i + 1))

-- ---- the tests

is_lex_true : (o : Option DimType) → is_lex o ≡ true → (dim : DimType) × ((o ≡ Some dim) × (dim.name ≡ codes "lex"))
is_lex_true None h = absurd (true≢false (sym h))
is_lex_true (Some dim) h = (dim, (refl, (bytes_eq-Decides dim.name (codes "lex")).0 h))

text_alone : (s : Shape) → is_text s ≡ true → s ≡ text
text_alone text h = refl
text_alone _ h = absurd (true≢false (sym h))

is_word_true : (one : List ℕ × Shape) → is_word one ≡ true → (one.0 ≡ codes "word") × (one.1 ≡ text)
is_word_true one h = let parts = and_parts (bytes_eq one.0 (codes "word")) (is_text one.1) h in ((bytes_eq-Decides one.0 (codes "word")).0 parts.0, text_alone one.1 parts.1)

abbrev lex_test : Table → ℕ → Bool
lex_test table k = is_lex (slice_get table.dims k)

-- ---- the place

field_told : (table : Table) → IsTable table → (d : ℕ) (dim : DimType) → IsUsed table d dim → dim.name ≡ codes "lex" → (o : Option ℕ) → Tells is_word (typed dim.fields) 0 o → TellsWordPlace table (with_field d o)
field_told table is d dim used name None none = λ e f w.
    let same = used_once table is e d w.lex dim w.used used (w.name ∙ sym name) in
    none f ((codes "word", text), (ap (λ (x : DimType). slice_get (typed x.fields) f) (sym same.1) ∙ w.word, refl))
field_told table is d dim used name (Some f) (k, (at, (one, (stands, passes)))) =
    let word = is_word_true one passes in
    let here : k ≡ f = omega (arith, at) in
    record { lex = dim; used = used; name = name; word = subst (λ j. slice_get (typed dim.fields) j ≡ Some (codes "word", text)) here (stands ∙ ap Some (ap₂ (λ n s. (n, s)) word.0 word.1)) }

dim_told : (table : Table) → IsTable table → (o : Option ℕ) → Tells (lex_test table) table.used 0 o → TellsWordPlace table (in_dim table o)
dim_told table is None none = λ d f w. none d (w.used.0, (w.used.1.0, ap is_lex w.used.1.1 ∙ (bytes_eq-Decides w.lex.name (codes "lex")).1 w.name))
dim_told table is (Some d) (k, (at, (place, (stands, passes)))) =
    let lex = is_lex_true (slice_get table.dims place) passes in
    let here : k ≡ d = omega (arith, at) in
    let used : slice_get table.used d ≡ Some place = subst (λ j. slice_get table.used j ≡ Some place) here stands in
    subst (λ o. TellsWordPlace table (with_field d (position_from is_word 0 (features o)))) (sym (ap (slice_get table.dims) (get_or_from_slice_get table.used d place 0 used) ∙ lex.1.0))
    (field_told table is d lex.0 (place, (used, lex.1.0)) lex.1.1 (position_from is_word 0 (typed lex.0.fields)) (first_told is_word (typed lex.0.fields) 0))

pub same_place : (table : Table) → IsTable table → (told : Option (ℕ × ℕ)) → TellsWordPlace table told → told ≡ place_of_word table
unfolding place_of_word
same_place table is told tells = told_once table is told _ tells (dim_told table is (position_from (lex_test table) 0 table.used) (first_told (lex_test table) table.used 0))

-- Where entries say their words, looked for place by place.
use Rattle.std.proofs.Common.{◌≡◌, ℕ, ◌<◌, ◌≤◌, ◌+◌, List, length, get_or, slice_get, Option, Some, None, refl, sym, ap, subst, ◌∙◌, codes, arith, below_more}
use Rattle.std.specs.Option.{option_map}
use Rattle.std.proofs.lemmas.Option.{slice_get-map, slice_get_read, slice_get-get_or, slice_get_within}
use Rattle.std.proofs.lemmas.List.{length-map}
use Rattle.xdg_domain.specs.declared.types.Ty.{Ty}
use Rattle.xdg_domain.specs.Shapes.{Shape, shape, text}
use Rattle.xdg_types.specs.declared.table.DimType.{DimType}
use Rattle.xdg_types.specs.Table.{Table, typed}
use Rattle.xdg_facts.proofs.Options.{some_same}
use Rattle.xdg_packed.specs.Entries.{IsWordPlace}
use Rattle.xdg_packed.specs.WordFields.{IsWordField, TellsWordField, IsWordIn, TellsWordIn}

abbrev pub Field : Type 0
Field = List ℕ × Ty

-- ---- features

-- none of the features before a place is such a one
abbrev pub NoWordField : List Field → ℕ → Type 0
NoWordField fields bound = (field : ℕ) → field < bound → IsWordField (typed fields) field → ⊥

field_at : (fields : List Field) (i : ℕ) (field : Field) → i < length fields → field ≡ get_or fields i field → slice_get (typed fields) i ≡ Some (field.0, shape field.1)
field_at fields i field within is = slice_get-map (λ (one : Field). (one.0, shape one.1)) fields i ∙ ap (option_map (λ (one : Field). (one.0, shape one.1))) (slice_get_read fields (length fields) i field refl within is)

pub field_passed : (fields : List Field) (i : ℕ) (field : Field) → i < length fields → field ≡ get_or fields i field → ((field.0 ≡ codes "word") × (shape field.1 ≡ text) → ⊥) → NoWordField fields i → NoWordField fields (i + 1)
field_passed fields i field within is not before =
    below_more (λ k. IsWordField (typed fields) k → ⊥) i before (λ word.
    let e = some_same (field.0, shape field.1) (codes "word", text) (sym (field_at fields i field within is) ∙ word) in
    not (ap (λ (p : List ℕ × Shape). p.0) e, ap (λ (p : List ℕ × Shape). p.1) e))

pub no_field_left : (fields : List Field) (i : ℕ) → length fields ≤ i → NoWordField fields i → (field : ℕ) → IsWordField (typed fields) field → ⊥
no_field_left fields i past before field word =
    let within : field < length (typed fields) = slice_get_within (typed fields) field (codes "word", text) word in
    let same : length (typed fields) ≡ length fields = length-map fields (λ (one : Field). (one.0, shape one.1)) in
    before field (omega (arith, within, same, past)) word

-- ---- dimensions

-- none of the used dimensions before a place is such a one
abbrev pub NoWordBefore : List DimType → List ℕ → ℕ → Type 0
NoWordBefore dims used bound = (place : ℕ) → place < bound → (at field : ℕ) → slice_get used place ≡ Some at → IsWordIn dims at field → ⊥

pub dim_passed : (dims : List DimType) (used : List ℕ) (i : ℕ) → i < length used → ((field : ℕ) → IsWordIn dims (get_or used i 0) field → ⊥) → NoWordBefore dims used i → NoWordBefore dims used (i + 1)
dim_passed dims used i within none before =
    below_more (λ place. (at field : ℕ) → slice_get used place ≡ Some at → IsWordIn dims at field → ⊥) i before
    (λ at field is word. let here = slice_get-get_or used i 0 within in let same : at ≡ get_or used i 0 = cc in none field (subst (λ k. IsWordIn dims k field) same word))

pub no_dim_left : (table : Table) (dims : List DimType) (used : List ℕ) (i : ℕ) → dims ≡ table.dims → used ≡ table.used → length used ≤ i → NoWordBefore dims used i → (dim field : ℕ) → IsWordPlace table dim field → ⊥
no_dim_left table dims used i same lent past before dim field place =
    let at = ap (λ us. slice_get us dim) lent ∙ place.used.1.0 in
    let within : dim < length used = slice_get_within used dim place.used.0 at in
    before dim (omega (arith, within, past)) place.used.0 field at
    (record { lex = place.lex; stands = ap (λ ds. slice_get ds place.used.0) same ∙ place.used.1.1; name = place.name; word = place.word })

-- ---- one dimension

-- the dimension with that place, if it is there, has no such feature
pub none_in : (dims : List DimType) (at : ℕ) → slice_get dims at ≡ None → (field : ℕ) → IsWordIn dims at field → ⊥
none_in dims at none field word = let stands = word.stands in absurd cc

pub other_name : (dims : List DimType) (at : ℕ) (dim : DimType) → slice_get dims at ≡ Some dim → (dim.name ≡ codes "lex" → ⊥) → (field : ℕ) → IsWordIn dims at field → ⊥
other_name dims at dim stands other field word = let same : word.lex ≡ dim = (let here = word.stands in cc) in other (ap (λ d. d.name) (sym same) ∙ word.name)

pub told_in : (dims : List DimType) (at : ℕ) (dim : DimType) (told : Option ℕ) → slice_get dims at ≡ Some dim → dim.name ≡ codes "lex" → TellsWordField (typed dim.fields) told → TellsWordIn dims at told
told_in dims at dim None stands name tells = λ field word. let same : word.lex ≡ dim = (let here = word.stands in cc) in tells field (subst (λ d. IsWordField (typed d.fields) field) same word.word)
told_in dims at dim (Some field) stands name tells = record { lex = dim; stands = stands; name = name; word = tells }

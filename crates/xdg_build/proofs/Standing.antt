-- What stands at the place of a name.
use Rattle.std.proofs.Common.{◌≡◌, ℕ, suc, ◌<◌, Bool, true, false, List, [], ◌∷◌, length, get_or, map, Some, unwrap_or, refl, sym, ap, ap₂, ◌∙◌, subst, arith}
use Rattle.std.specs.Prelude.{Option, None, bytes_eq, if◌then◌else◌, option_map, slice_get}
use Rattle.std.specs.List.{position}
use Rattle.std.proofs.lemmas.List.{length-map}
use Rattle.std.proofs.lemmas.Option.{get_or_from_slice_get, slice_get_within}
use Rattle.xdg_domain.specs.declared.types.Ty.{Ty}
use Rattle.xdg_terms.specs.Means.{IsAt}
use Rattle.xdg_types.specs.declared.table.DimType.{DimType}
use Rattle.xdg_types.specs.Table.{Table, firsts, dim_named}
use Rattle.xdg_formula.specs.Tables.{dims_at, no_dim, type_named, used_dims}
use Rattle.xdg_build.specs.Formulas.{place_or_zero}
use Rattle.xdg_build.specs.Places.{names_at}
use Rattle.xdg_facts.proofs.Options.{some_same}
use Rattle.xdg_facts.proofs.Texts.{same_text}
use Rattle.xdg_names.specs.Texts.{has_text, place_of}
use Rattle.xdg_names.proofs.Texts.{place_of-has_text, place_of-Some, text_placed}

-- the place, as code looks for it
pub position_is : {A : Type 0} (text : A → List ℕ) (name : List ℕ) (xs : List A) (found : Option ℕ) (n : ℕ) → n ≡ unwrap_or found 0 → found ≡ position (λ x. bytes_eq name (text x)) xs → n ≡ place_or_zero (map text xs) name
position_is text name xs found n told is = told ∙ ap (λ o. unwrap_or o 0) (is ∙ text_placed text xs (map text xs) name refl)

-- a text that stands somewhere stands at its place
pub text_at : (texts : List (List ℕ)) (name : List ℕ) → has_text texts name ≡ true → IsAt texts (place_or_zero texts name) name
text_at texts name there =
    let found = place_of-has_text texts name there in
    subst (λ n. IsAt texts n name) (sym (ap (λ o. unwrap_or o 0) found.1)) (place_of-Some texts name found.0 found.1)

-- ---- what is found under a name

-- of a walk that gives what the first element with the name has
module _ {A B : Type 0} (text : A → List ℕ) (out : A → B) (name : List ℕ) (find : List A → Option B) (none : find [] ≡ None) (step : (x : A) (xs : List A) → find (x ∷ xs) ≡ (if bytes_eq (text x) name then Some (out x) else find xs)) where
  -- the element with that place has the name, and is the one that is found
  record IsFoundAt (xs : List A) (y : B) (place : ℕ) : Type 0 where
    pub one : A
    pub stands : slice_get xs place ≡ Some one
    pub named : text one ≡ name
    pub is : out one ≡ y

  found_from : (xs : List A) (y : B) → find xs ≡ Some y → (q : ℕ) × (place_of (map text xs) name ≡ Some q) × IsFoundAt xs y q
  found_from [] y h = absurd (let e : None ≡ Some y = sym none ∙ h in cc)
  found_from (x ∷ xs) y h = by (bytes_eq (text x) name) refl (sym (step x xs) ∙ h) (found_from xs y)
    where
      by : (b : Bool) → bytes_eq (text x) name ≡ b → (if b then Some (out x) else find xs) ≡ Some y → (find xs ≡ Some y → (q : ℕ) × (place_of (map text xs) name ≡ Some q) × IsFoundAt xs y q)
          → (q : ℕ) × ((if b then Some 0 else option_map suc (place_of (map text xs) name)) ≡ Some q) × IsFoundAt (x ∷ xs) y q
      by true e is later = (0, refl, record { one = x; stands = refl; named = same_text (text x) name e; is = some_same (out x) y is })
      by false e is later =
          let more = later is in
          (suc more.0, ap (option_map suc) more.1, record { one = more.2.one; stands = more.2.stands; named = more.2.named; is = more.2.is })

  found_at : (xs : List A) (y : B) → find xs ≡ Some y → IsFoundAt xs y (place_or_zero (map text xs) name)
  found_at xs y h = (let found = found_from xs y h in subst (IsFoundAt xs y) (sym (ap (λ o. unwrap_or o 0) found.1)) found.2)

-- ---- dimensions

-- the dimension of that name, among the used ones
abbrev pub dim_of : Table → List ℕ → DimType
dim_of table name = get_or table.dims (get_or table.used (place_or_zero (names_at table.dims table.used) name) 0) no_dim

-- the used dimension with that place has the name
pub record IsDimAt (table : Table) (name : List ℕ) (place : ℕ) : Type 0 where
  pub within : place < length (used_dims table)
  pub named : (get_or table.dims (get_or table.used place 0) no_dim).name ≡ name

pub dim_found : (table : Table) (name : List ℕ) (found : DimType) → dim_named (used_dims table) name ≡ Some found → IsDimAt table name (place_or_zero (names_at table.dims table.used) name) × (dim_of table name ≡ found)
dim_found table name found there =
    let dim : ℕ → DimType = λ k. get_or table.dims k no_dim in
    let here = found_at (λ k. (dim k).name) dim name (λ ks. dim_named (dims_at table.dims ks) name) refl (λ k ks. refl) table.used found there in
    let n : ℕ = place_or_zero (names_at table.dims table.used) name in
    let within : n < length table.used = slice_get_within table.used n here.one here.stands in
    let is : dim (get_or table.used n 0) ≡ dim here.one = ap dim (get_or_from_slice_get table.used n here.one 0 here.stands) in
    (record { within = omega (arith, within, length-map table.used dim); named = ap (λ (one : DimType). one.name) is ∙ here.named }, is ∙ here.is)

-- ---- attributes and features

pub type_found : (all : List (List ℕ × Ty)) (name : List ℕ) (type : Ty) → type_named all name ≡ Some type → slice_get all (place_or_zero (firsts all) name) ≡ Some (name, type)
type_found all name type there =
    let here = found_at (λ (one : List ℕ × Ty). one.0) (λ (one : List ℕ × Ty). one.1) name (λ ts. type_named ts name) refl (λ one ts. refl) all type there in
    here.stands ∙ ap₂ (λ (n : List ℕ) (t : Ty). Some (n, t)) here.named here.is

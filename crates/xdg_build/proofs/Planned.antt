-- The compiled dimensions are dimensions of a problem.
use Rattle.std.proofs.Common.{◌≡◌, ℕ, ◌<◌, ◌≤◌, List, [], ◌∷◌, length, get_or, map, refl, sym, ap, ◌∙◌, subst, arith, All, Some}
use Rattle.std.specs.Prelude.{◌≢◌, slice_get}
use Rattle.std.specs.List.{AllPairs, range_with_len}
use Rattle.std.proofs.lemmas.List.{get_or-map, length-map}
use Rattle.std.proofs.lemmas.Option.{slice_get-get_or, slice_get_within, get_or_from_slice_get}
use Rattle.std.proofs.lemmas.List.Elements.{All-nil, All-cons, All-map}
use Rattle.std.proofs.lemmas.List.FromFn.{length-map-range_with_len, get_or-map-range_with_len}
use Rattle.xdg_domain.specs.declared.types.Ty.{Ty}
use Rattle.xdg_domain.specs.Shapes.{Shape, domain, tuple, count, shape, IsSmall, IsType}
use Rattle.xdg_problem.specs.declared.parts.AttrPlan.{AttrPlan}
use Rattle.xdg_problem.specs.declared.parts.DimPlan.{DimPlan}
use Rattle.xdg_problem.specs.Problems.{HasConstant, IsAttr, IsDim}
use Rattle.xdg_types.specs.declared.table.DimType.{DimType}
use Rattle.xdg_types.specs.Table.{Typed, typed, firsts, AreAttributes, KeepsDim, KeepDims, ArePlaces, IsTable, AreFeatures}
use Rattle.xdg_build.specs.Grammars.{Grammar}
use Rattle.xdg_formula.specs.Tables.{no_dim}
use Rattle.xdg_build.specs.Plans.{shown_as, attr_plan, attr_plans, dim_plan, plan_at, plans}
use Rattle.xdg_build.proofs.Different.{same_tuple, some_text}
use Rattle.xdg_facts.specs.Membership.{Differ}
use Rattle.xdg_facts.proofs.Lists.{any_default}
use Rattle.xdg_types.proofs.Kept.{keeps_at}
use Rattle.xdg_types.proofs.Places as placed
use Rattle.xdg_formula.proofs.Turns.{place_within}
use Rattle.xdg_facts.proofs.Each.{at_place}
use Rattle.xdg_facts.proofs.In.{differ_by, differ_all, one_place}

-- ---- attributes

few_values : (s : Shape) → IsSmall s → count s ≤ 1024
few_values (domain cs) small = omega (arith, small.0)
few_values (tuple ss) small = small.few
few_values s small = absurd small

has_constant : (s : Shape) (n : ℕ) → IsSmall s → HasConstant (shown_as s n)
has_constant (domain cs) n small = tt
has_constant (tuple ss) n small = some_text ss n small
has_constant s n small = absurd small

-- values that are shown alike are the same
shown_alike : (s : Shape) (m n : ℕ) → IsSmall s → m < count s → n < count s → shown_as s m ≡ shown_as s n → m ≡ n
shown_alike (domain cs) m n small within inside e = (let texts : get_or cs m [] ≡ get_or cs n [] = cc in one_place cs m n small.1 within inside texts)
shown_alike (tuple ss) m n small within inside e = same_tuple ss m n small within inside cc
shown_alike s m n small within inside e = absurd small

is_attr : (name : List ℕ) (s : Shape) → IsSmall s → 0 < count s → IsAttr (attr_plan name s)
is_attr name s small some =
    let long : length (map (shown_as s) (range_with_len 0 (count s))) ≡ count s = length-map-range_with_len (shown_as s) 0 (count s) in
    let few : count s ≤ 1024 = few_values s small in
    record {
      some = omega (arith, long, some);
      most = omega (arith, long, few);
      shown_as = All-map HasConstant (shown_as s) (range_with_len 0 (count s)) (λ k d within. has_constant s (get_or (range_with_len 0 (count s)) k d) small);
      differ = λ i j d before within e.
          let inside : j < count s = omega (arith, within, long) in
          let here : get_or (map (shown_as s) (range_with_len 0 (count s))) i d ≡ shown_as s i = get_or-map-range_with_len (shown_as s) 0 (count s) i i d (omega (arith, before, inside)) (omega arith) in
          let there : get_or (map (shown_as s) (range_with_len 0 (count s))) j d ≡ shown_as s j = get_or-map-range_with_len (shown_as s) 0 (count s) j j d inside (omega arith) in
          let same : i ≡ j = shown_alike s i j small (omega (arith, before, inside)) inside (sym here ∙ e ∙ there) in
          omega (arith, same, before);
    }

are_attrs : (attrs : Typed) → AreAttributes attrs → All IsAttr (attr_plans attrs)
are_attrs [] h = All-nil IsAttr
are_attrs (attr ∷ attrs) h = All-cons IsAttr (attr_plan attr.0 attr.1) (attr_plans attrs) (is_attr attr.0 attr.1 h.0.0 h.0.1) (are_attrs attrs h.1)

names_are : (attrs : List (List ℕ × Ty)) → map (λ (attr : AttrPlan). attr.name) (attr_plans (typed attrs)) ≡ firsts attrs
names_are [] = refl
names_are (attr ∷ attrs) = ap (λ (names : List (List ℕ)). attr.0 ∷ names) (names_are attrs)

-- ---- dimensions

module _ (g : Grammar) where
  pub attr_count : (dim : DimType) → length (attr_plans (typed dim.attrs)) ≡ length dim.attrs
  attr_count dim = length-map (typed dim.attrs) (λ (attr : List ℕ × Shape). attr_plan attr.0 attr.1) ∙ length-map dim.attrs (λ (one : List ℕ × Ty). (one.0, shape one.1))

  is_dim : (k : ℕ) (dim : DimType) → KeepsDim dim → IsDim (dim_plan g k dim)
  is_dim k dim h =
      let many = attr_count dim in
      record {
        labels_most = h.few_labels;
        labels_differ = differ_all dim.labels h.labels;
        attrs_most = omega (arith, many, h.few_attrs);
        attrs_differ = differ_by (λ (attr : AttrPlan). attr.name) (attr_plans (typed dim.attrs)) (subst Differ (sym (names_are dim.attrs)) h.attrs);
        attrs = are_attrs (typed dim.attrs) h.attributes;
      }

-- what holds of each element holds of the one that stands at a place
got : {X : Type 0} (Each : List X → Type 0) (One : X → Type 0) → ((x : X) (xs : List X) → Each (x ∷ xs) → One x × Each xs) → (xs : List X) (i : ℕ) (x : X) → Each xs → slice_get xs i ≡ Some x → One x
got Each One parts xs i x h stands = at_place Each One parts xs i x h (slice_get_within xs i x stands) (sym (get_or_from_slice_get xs i x x stands))

pub feature_right : (all : Typed) (f : ℕ) (name : List ℕ) (type : Shape) → AreFeatures all → slice_get all f ≡ Some (name, type) → IsType type
feature_right all f name type = got AreFeatures (λ one. IsType one.1) (λ _ _ h. h) all f (name, type)

pub attribute_right : (all : Typed) (i : ℕ) (name : List ℕ) (type : Shape) → AreAttributes all → slice_get all i ≡ Some (name, type) → IsSmall type × (0 < count type)
attribute_right all i name type = got AreAttributes (λ one. IsSmall one.1 × (0 < count one.1)) (λ _ _ h. h) all i (name, type)

pub kept_at : (dims : List DimType) (k : ℕ) → KeepDims dims → k < length dims → KeepsDim (get_or dims k no_dim)
kept_at dims k h within = keeps_at dims k (get_or dims k no_dim) h within (any_default dims k no_dim (get_or dims k no_dim) within)

-- no place stands twice
pub places_once : (bound : ℕ) (ks : List ℕ) (i j : ℕ) → ArePlaces bound ks → i < length ks → j < length ks → get_or ks i 0 ≡ get_or ks j 0 → i ≡ j
places_once bound ks i j h l m e = placed.places_once bound ks i j (get_or ks i 0) h (slice_get-get_or ks i 0 l) (slice_get-get_or ks j 0 m ∙ ap (λ (k : ℕ). Some k) (sym e))

module _ (g : Grammar) (right : IsTable g.table) where
  abbrev at : ℕ → DimPlan
  at = plan_at g g.table.dims

  name_at : (k : ℕ) → k < length g.table.dims → get_or (map (λ (dim : DimType). dim.name) g.table.dims) k [] ≡ (at k).name
  name_at k within = get_or-map (λ (dim : DimType). dim.name) g.table.dims k no_dim [] within

  pub dims_few : length (plans g) ≤ 8
  dims_few = omega (arith, length-map g.table.used at, right.few_used)

  pub dims_differ : AllPairs (λ (a b : DimPlan). a.name ≢ b.name) (plans g)
  dims_differ i j d before within e =
      let inside : j < length g.table.used = omega (arith, within, length-map g.table.used at) in
      let earlier : i < length g.table.used = omega (arith, before, inside) in
      let one : ℕ = get_or g.table.used i 0 in
      let two : ℕ = get_or g.table.used j 0 in
      let one_in : one < length g.table.dims = place_within (length g.table.dims) g.table.used i 0 right.used earlier in
      let two_in : two < length g.table.dims = place_within (length g.table.dims) g.table.used j 0 right.used inside in
      let here : get_or (plans g) i d ≡ at one = get_or-map at g.table.used i 0 d earlier in
      let there : get_or (plans g) j d ≡ at two = get_or-map at g.table.used j 0 d inside in
      let names : (at one).name ≡ (at two).name = ap (λ (plan : DimPlan). plan.name) (sym here) ∙ e ∙ ap (λ (plan : DimPlan). plan.name) there in
      let long : length (map (λ (dim : DimType). dim.name) g.table.dims) ≡ length g.table.dims = length-map g.table.dims (λ (dim : DimType). dim.name) in
      let same : one ≡ two = one_place (map (λ (dim : DimType). dim.name) g.table.dims) one two right.names (subst (λ n. one < n) (sym long) one_in) (subst (λ n. two < n) (sym long) two_in) (name_at one one_in ∙ names ∙ sym (name_at two two_in)) in
      omega (arith, before, places_once (length g.table.dims) g.table.used i j right.used earlier inside same)

  pub dims_are : All IsDim (plans g)
  dims_are = All-map IsDim at g.table.used (λ i d within.
      let k : ℕ = get_or g.table.used i d in
      is_dim g k (get_or g.table.dims k no_dim) (kept_at g.table.dims k right.dims (place_within (length g.table.dims) g.table.used i d right.used within)))

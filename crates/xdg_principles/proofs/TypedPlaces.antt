-- Places of labels and of dimensions that are used.
use Rattle.std.proofs.Common.{◌≡◌, inl, inr, ℕ, zero, suc, ◌<◌, List, [], ◌∷◌, length, get_or, Option, None, Some, refl, sym, ap, ◌∙◌, subst, arith}
use Rattle.std.specs.Prelude.{slice_get}
use Rattle.std.proofs.lemmas.List.{length-map, get_or-map}
use Rattle.std.proofs.lemmas.Option.{get_or_from_slice_get, slice_get_within}
use Rattle.xdg_ast.specs.declared.names.Name.{Name}
use Rattle.xdg_names.specs.Texts.{place_of}
use Rattle.xdg_names.proofs.Texts.{place_of-Some, place_of-at}
use Rattle.xdg_types.specs.declared.table.DimType.{DimType}
use Rattle.xdg_types.specs.Table as table
use Rattle.xdg_types.specs.Table.{AreUsed}
use Rattle.xdg_types.proofs.Elements.{in_texts}
use Rattle.xdg_problem.specs.declared.forms.Which.{Which}
use Rattle.xdg_principles.specs.Settings.{Setting, dim_texts, dim_place, place_named}
use Rattle.xdg_principles.specs.Made.{AreLabels, ArePlaces}
use Rattle.xdg_facts.proofs.Options.{none_some, some_same}
use Rattle.xdg_facts.specs.Membership.{In, Differ}
use Rattle.xdg_ast.specs.Texts.{texts}
use Rattle.xdg_facts.proofs.Zips.{zip_second}

-- ---- labels

label_again : (known : List (List ℕ)) (names : List Name) (ns : List ℕ) (k : ℕ) (t : List ℕ) → AreLabels known names ns → In ns k → place_of known t ≡ Some k → In (texts names) t
label_again known names ns k t h i is =
    let r = zip_second (λ (name : Name) n. place_of known name.text ≡ Some n) names ns h k i in
    subst (In (texts names)) (sym (place_of-Some known r.0.text k r.1.1).1 ∙ (place_of-Some known t k is).1) (in_texts names r.0 r.1.0)

-- the places of different labels are places, all different
pub label_places : (known : List (List ℕ)) (names : List Name) (ns : List ℕ) → AreLabels known names ns → Differ (texts names) → table.ArePlaces (length known) ns
label_places known [] [] h apart = tt
label_places known (name ∷ names) (n ∷ ns) h apart = (
  ((place_of-Some known name.text n h.0).0, λ i. apart.0 (label_again known names ns n name.text h.1 i h.0)),
  label_places known names ns h.1 apart.1,
)
label_places known _ _ h apart = absurd h

-- ---- the dimensions of a use

-- the place of a dimension stands where the dimension does
pub place_in : (setting : Setting) (ws : List Which) (ks : List ℕ) → ArePlaces setting ws ks → (n : ℕ) (which : Which) → slice_get ws n ≡ Some which → slice_get ks n ≡ dim_place setting which
place_in setting [] ks h n which is = absurd (none_some which is)
place_in setting (v ∷ ws) [] h n which is = absurd h
place_in setting (v ∷ ws) (k ∷ ks) h zero which is = sym h.0 ∙ ap (dim_place setting) (some_same v which is)
place_in setting (v ∷ ws) (k ∷ ks) h (suc n) which is = place_in setting ws ks h.1 n which is

pub name_of_dim : (dims : List DimType) (given : Option Name) (k : ℕ) → place_named dims given ≡ Some k → (name : Name) × ((given ≡ Some name) × (place_of (dim_texts dims) name.text ≡ Some k))
name_of_dim dims None k h = absurd (none_some k h)
name_of_dim dims (Some name) k h = (name, (refl, h))

pub place_below : (dims : List DimType) (t : List ℕ) (k : ℕ) → place_of (dim_texts dims) t ≡ Some k → k < length dims
place_below dims t k h =
    let len : length (dim_texts dims) ≡ length dims = length-map dims (λ dim. dim.name) in
    omega (arith, len, (place_of-Some (dim_texts dims) t k h).0)

-- ---- dimensions that are used

name_at : (dims : List DimType) (k : ℕ) (dim : DimType) → slice_get dims k ≡ Some dim → get_or (dim_texts dims) k [] ≡ dim.name
name_at dims k dim there =
    get_or-map (λ (x : DimType). x.name) dims k dim [] (slice_get_within dims k dim there) ∙ ap (λ (x : DimType). x.name) (get_or_from_slice_get dims k dim dim there)

-- a dimension whose place is used is named as used
pub used_text : (dims : List DimType) (names : List Name) (ks : List ℕ) → AreUsed dims names ks → (k : ℕ) (t : List ℕ) → In ks k → place_of (dim_texts dims) t ≡ Some k → In (texts names) t
used_text dims [] [] h k t i is = absurd i
used_text dims (name ∷ names) (j ∷ ks) h k t i is = elim i [
  | inl q ↦ inl (sym h.0.1.1 ∙ sym (name_at dims j h.0.0 h.0.1.0) ∙ ap (λ n. get_or (dim_texts dims) n []) q ∙ (place_of-Some (dim_texts dims) t k is).1)
  | inr r ↦ inr (used_text dims names ks h.1 k t r is)
]
used_text dims _ _ h k t i is = absurd h

-- the place of a dimension that is named as used is used
pub used_place : (dims : List DimType) (names : List Name) (ks : List ℕ) → Differ (dim_texts dims) → AreUsed dims names ks → (k : ℕ) (t : List ℕ) → In (texts names) t → place_of (dim_texts dims) t ≡ Some k → In ks k
used_place dims [] ks apart h k t i is = absurd i
used_place dims (name ∷ names) [] apart h k t i is = absurd h
used_place dims (name ∷ names) (j ∷ ks) apart h k t i is = elim i [
  | inl q ↦ inl (some_same j k (sym (place_of-at (dim_texts dims) j apart inside) ∙ ap (place_of (dim_texts dims)) (name_at dims j h.0.0 h.0.1.0 ∙ h.0.1.1 ∙ q) ∙ is))
  | inr r ↦ inr (used_place dims names ks apart h.1 k t r is)
]
  where
    inside : j < length (dim_texts dims)
    inside = let len : length (dim_texts dims) ≡ length dims = length-map dims (λ dim. dim.name) in omega (arith, len, slice_get_within dims j h.0.0 h.0.1.0)

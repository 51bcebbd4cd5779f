-- Names by number.
use Rattle.std.proofs.Common.{◌≡◌, ℕ, ◌<◌, ◌≤◌, List, [], length, get_or, Option, None, Some, ap, sym, ◌∙◌, refl, subst, arith}
use Rattle.std.specs.Prelude.{slice_get, option_map}
use Rattle.std.proofs.lemmas.Option.{slice_get-map}
use Rattle.xdg_names.specs.Texts.{place_of}
use Rattle.xdg_types.specs.declared.table.DimType.{DimType}
use Rattle.xdg_types.specs.Table.{KeepsDim, KeepDims, firsts}
use Rattle.xdg_types.proofs.Kept.{keeps_at, keeps_found}
use Rattle.xdg_principles.specs.declared.lookup.Lookup.{Lookup}
use Rattle.xdg_problem.specs.declared.forms.Sort.{Sort}
use Rattle.xdg_problem.specs.declared.forms.Sort.TheVariants as s
use Rattle.xdg_principles.specs.Lent.{Knows, names_by, member_names}
use Rattle.xdg_principles.specs.Settings.{dim_texts, labels_in, members_in, at_place}
use Rattle.xdg_facts.specs.Membership.{Differ}

-- ---- names differ

differ_here : (sort : Sort) (dim : DimType) → KeepsDim dim → Differ (firsts (members_in sort (Some dim)))
differ_here s.Feature dim keeps = keeps.fields
differ_here s.Attribute dim keeps = keeps.attrs

pub differ_at : (dims : List DimType) (sort : Sort) (k : ℕ) (dim : DimType) → KeepDims dims → k < length dims → dim ≡ get_or dims k dim → Differ (firsts (members_in sort (Some dim)))
differ_at dims sort k dim keeps h e = differ_here sort dim (keeps_at dims k dim keeps h e)

-- ---- labels

few_at : (dims : List DimType) (place : Option ℕ) (found : Option DimType) → at_place dims place ≡ found → KeepDims dims → length (labels_in found) ≤ 32
few_at dims place None is keeps = omega arith
few_at dims None (Some dim) is keeps = absurd cc
few_at dims (Some k) (Some dim) is keeps = (keeps_found dims k dim is keeps).few_labels

pub few_labels : (dims : List DimType) (lookup : Lookup) (place : Option ℕ) (labels : List (List ℕ)) → Knows dims lookup → labels ≡ labels_in (at_place dims place) → length labels ≤ 32
few_labels dims lookup place labels h e = subst (λ (ls : List (List ℕ)). length ls ≤ 32) (sym e) (few_at dims place (at_place dims place) refl h.keeps)

-- ---- what is found

pub knows : (dims : List DimType) (lookup : Lookup) → KeepDims dims → lookup.dims ≡ dim_texts dims → lookup.features ≡ member_names s.Feature dims → lookup.attributes ≡ member_names s.Attribute dims → Knows dims lookup
knows dims lookup keeps names features attributes = record { keeps = keeps; names = names; members = members }
  where
    members : (sort : Sort) → names_by lookup sort ≡ member_names sort dims
    members s.Feature = features
    members s.Attribute = attributes

abbrev or_none : Option (List (List ℕ)) → List (List ℕ)
or_none None = []
or_none (Some names) = names

same_names : (sort : Sort) (o : Option DimType) → firsts (members_in sort o) ≡ or_none (option_map (λ dim. firsts (members_in sort (Some dim))) o)
same_names sort None = refl
same_names sort (Some dim) = refl

named_at : (dims : List DimType) (lookup : Lookup) (sort : Sort) (k : ℕ) → Knows dims lookup → firsts (members_in sort (slice_get dims k)) ≡ or_none (slice_get (names_by lookup sort) k)
named_at dims lookup sort k h =
    same_names sort (slice_get dims k) ∙ ap or_none (sym (slice_get-map (λ (dim : DimType). firsts (members_in sort (Some dim))) dims k) ∙ ap (λ names. slice_get names k) (sym (h.members sort)))

pub none_there : (dims : List DimType) (lookup : Lookup) (sort : Sort) (k : ℕ) (place : Option ℕ) (name : List ℕ) → Knows dims lookup → Some k ≡ place → None ≡ slice_get (names_by lookup sort) k
    → None ≡ place_of (firsts (members_in sort (at_place dims place))) name
none_there dims lookup sort k place name h is none =
    ap (λ names. place_of names name) (ap or_none none ∙ sym (named_at dims lookup sort k h)) ∙ ap (λ o. place_of (firsts (members_in sort (at_place dims o))) name) is

pub found_there : (dims : List DimType) (lookup : Lookup) (sort : Sort) (k : ℕ) (place : Option ℕ) (name : List ℕ) (names : List (List ℕ)) (result : Option ℕ) → Knows dims lookup → Some k ≡ place → Some names ≡ slice_get (names_by lookup sort) k
    → result ≡ place_of names name → result ≡ place_of (firsts (members_in sort (at_place dims place))) name
found_there dims lookup sort k place name names result h is some found =
    found ∙ ap (λ ns. place_of ns name) (ap or_none some ∙ sym (named_at dims lookup sort k h)) ∙ ap (λ o. place_of (firsts (members_in sort (at_place dims o))) name) is

-- What the rows of a compiled feature say, and what the value of its type says of constants.
use Rattle.std.proofs.Common.{◌≡◌, ℕ, zero, suc, ◌<◌, ◌≤◌, ◌+◌, ◌↔◌, List, [], ◌∷◌, length, get_or, map, refl, sym, ap, ap₂, ◌∙◌, subst, arith}
use Rattle.std.specs.Prelude.{Contains, None, Some, slice_get}
use Rattle.std.proofs.lemmas.List.Elements.{All-contains}
use Rattle.std.proofs.lemmas.Option.{slice_get-get_or, slice_get_within, get_or_from_slice_get}
use Rattle.xdg_domain.specs.Defaults.{IsFilledIn}
use Rattle.xdg_domain.specs.Shapes.{Shape, domain, tuple, set, iset, valency, mapping, sizes, count, IsSmall, IsType}
use Rattle.xdg_domain.specs.Tuples.{places}
use Rattle.xdg_domain.specs.Valencies.{said_at, KeysRise}
use Rattle.xdg_domain.specs.Values.{IsIn, AllBelow}
use Rattle.xdg_domain.specs.declared.values.Value.{Value, out-Value}
use Rattle.xdg_domain.specs.declared.values.Value.TheOpen.{Value-F}
use Rattle.xdg_domain.proofs.Keyed.{at_head, after_head, said_right}
use Rattle.xdg_terms.specs.Means.{chosen}
use Rattle.xdg_principles.specs.Wanted.{IsSame, IsSetOf}
use Rattle.xdg_build.specs.Features.{members_in, rows_in}
use Rattle.xdg_build.proofs.TypeRows.{sizes_again, all_below, first_key, sets}
use Rattle.xdg_build.specs.Readings.{value_texts, IsMember, IsMemberAt, IsAllowedAt}
use Rattle.xdg_build.proofs.Different.{same_tuple}
use Rattle.xdg_facts.proofs.Facts.{both_steps}
use Rattle.xdg_facts.proofs.Lists.{any_default, head_of}
use Rattle.xdg_facts.proofs.Options.{some_same, is_said}
use Rattle.xdg_facts.specs.Membership.{Differ}
use Rattle.xdg_facts.proofs.In.{one_place}

-- ---- values by their constants

-- values of a type with the same constants have the same number
pub same_number : (s : Shape) (m n : ℕ) → IsSmall s → m < count s → n < count s → value_texts s m ≡ value_texts s n → m ≡ n
same_number (domain cs) m n small within inside e = one_place cs m n small.1 within inside (head_of (get_or cs m []) (get_or cs n []) [] [] e)
same_number (tuple ss) m n small within inside e = same_tuple ss m n small within inside e
same_number s m n small within inside e = absurd small

-- types that are the same have the same values
pub same_texts : (s u : Shape) (n : ℕ) → IsSame s u → value_texts s n ≡ value_texts u n
same_texts (domain cs) (domain ds) n h = ap (λ (all : List (List ℕ)). get_or all n [] ∷ []) h
same_texts (tuple ss) (tuple us) n h =
    let long : sizes ss ≡ sizes us = sizes_again ss ∙ ap (map length) h ∙ sym (sizes_again us) in
    ap₂ (λ (all : List (List (List ℕ))) (ns : List ℕ). chosen all (places ns n)) h long
same_texts _ _ n h = absurd h

-- ---- members

-- a row names the value with these constants
abbrev pub Names : Shape → List ℕ → List (List ℕ) → Type 0
Names s row texts = (n : ℕ) × Contains row n × (value_texts s n ≡ texts)

below_contained : (bound : ℕ) (ns : List ℕ) (n : ℕ) → AllBelow bound ns → Contains ns n → n < bound
below_contained bound ns n h is = All-contains (λ k. k < bound) ns n (all_below bound ns h) is

-- a row of values of a type names a value of the type exactly where it has the value's number
pub names_number : (s : Shape) (row : List ℕ) (n : ℕ) → IsSmall s → AllBelow (count s) row → n < count s → Names s row (value_texts s n) ↔ Contains row n
names_number s row n small within inside = (
  λ h. subst (λ k. Contains row k) (same_number s h.0 n small (below_contained (count s) row h.0 within h.1) inside h.2) h.1,
  λ c. (n, c, refl),
)

-- it names some value exactly where it isn't empty
pub names_some : (s : Shape) (row : List ℕ) → ((texts : List (List ℕ)) × Names s row texts) ↔ (0 < length row)
names_some s row = (
  λ h. (let within : h.1.1.0 < length row = h.1.1.1 in omega (arith, within)),
  λ l. (let n : ℕ = get_or row 0 0 in (value_texts s n, (n, (0, l, any_default row 0 n 0 l), refl))),
)

-- ---- what is said of each key stands in its row

pub keyed_row : {V : Type 0} (f : V → List ℕ) (low bound : ℕ) (m : List (ℕ × V)) (i key : ℕ) → KeysRise low m → ((k : ℕ) → low ≤ k → k < bound → said_at m k ≡ None → ⊥) → key ≡ low + i → key < bound
    → (v : V) × (said_at m key ≡ Some v) × (get_or (map (λ said. f said.1) m) i [] ≡ f v)
keyed_row f low bound [] i key rises said is within = absurd (said key (omega (arith, is)) within refl)
keyed_row f low bound (x ∷ m) zero key rises said is within =
    let first : x.0 ≡ low = first_key low bound x m rises said (omega (arith, is, within)) in
    (x.1, at_head x m key (omega (arith, first, is)), refl)
keyed_row f low bound (x ∷ m) (suc i) key rises said is within =
    let first : x.0 ≡ low = first_key low bound x m rises said (omega (arith, is, within)) in
    let more = keyed_row f (x.0 + 1) bound m i key rises.1 (λ k above less none. said k (omega (arith, above, first)) less (after_head x m k (λ e. omega (arith, e, above)) ∙ none)) (omega (arith, is, first)) within in
    (more.0, after_head x m key (λ e. omega (arith, e, is, first)) ∙ more.1, more.2)

-- ---- sets

-- what a set is of
abbrev pub element : Shape → Shape
element (set s) = s
element (iset s) = s
element s = s

pub element_right : (P : Shape → Type 0) (type : Shape) → IsSetOf P type → P (element type)
element_right P (set s) h = h
element_right P (iset s) h = h
element_right P _ h = absurd h

pub element_small : (P : Shape → Type 0) (type : Shape) → IsSetOf P type → IsType type → IsSmall (element type)
element_small P (set s) h is = is
element_small P (iset s) h is = is
element_small P _ h is = absurd h

pub member_names : (P : Shape → Type 0) (texts : List (List ℕ)) (type : Shape) (v : Value-F Value) → IsSetOf P type → IsIn type v → IsMember type v texts ↔ Names (element type) (members_in v) texts
member_names P texts = sets P (λ type v. IsMember type v texts ↔ Names (element type) (members_in v) texts) (λ s ns p h. ((λ m. m, λ m. m), (λ m. m, λ m. m)))

pub members_below : (P : Shape → Type 0) (type : Shape) (v : Value-F Value) → IsSetOf P type → IsIn type v → AllBelow (count (element type)) (members_in v)
members_below P = sets P (λ type v. AllBelow (count (element type)) (members_in v)) (λ s ns p h. (h.1, h.1))

-- ---- what is said of a key

keyed_says : {V : Type 0} (keys : List (List ℕ)) (m : List (ℕ × V)) (l : ℕ) (v : V) (Q : V → Type 0) → Differ keys → l < length keys → said_at m l ≡ Some v
    → ((k : ℕ) × (w : V) × (slice_get keys k ≡ Some (get_or keys l [])) × (said_at m k ≡ Some w) × Q w) ↔ Q v
keyed_says keys m l v Q differ within said = (
  λ h.
      let same : h.0 ≡ l = one_place keys h.0 l differ (slice_get_within keys h.0 (get_or keys l []) h.2) within (get_or_from_slice_get keys h.0 (get_or keys l []) [] h.2) in
      subst Q (some_same h.1 v (sym h.3 ∙ ap (said_at m) same ∙ said)) h.4,
  λ q. (l, v, slice_get-get_or keys l [] within, said, q),
)

-- ---- valencies

pub valency_allows : (keys : List (List ℕ)) (v : Value-F Value) (l number : ℕ) → Differ keys → l < length keys → IsIn (valency (domain keys)) v → IsFilledIn (valency (domain keys)) v
    → IsAllowedAt (valency (domain keys)) v (get_or keys l []) number ↔ Contains (get_or (rows_in v) l []) number
valency_allows keys (Value-F.Valency m) l number differ within is filled =
    let row = keyed_row (λ (ns : List ℕ). ns) 0 (length keys) m l l is.0 (λ k above less none. is_said (λ ns. Unit {0}) (said_at m k) (filled k less) none) (omega arith) within in
    subst (λ (ns : List ℕ). IsAllowedAt (valency (domain keys)) (Value-F.Valency m) (get_or keys l []) number ↔ Contains ns number) (sym row.2) (keyed_says keys m l row.0 (λ ns. Contains ns number) differ within row.1)
valency_allows keys _ l number differ within is filled = absurd is

-- ---- maps

-- what a row of a map says
pub record IsMapRow (type : Shape) (v : Value-F Value) (keys : List (List ℕ)) (u : Shape) (l : ℕ) : Type 0 where
  pub names : (texts : List (List ℕ)) → IsMemberAt type v (get_or keys l []) texts ↔ Names (element u) (get_or (rows_in v) l []) texts
  pub below : AllBelow (count (element u)) (get_or (rows_in v) l [])

pub map_row_is : (P : Shape → Type 0) (keys : List (List ℕ)) (u : Shape) (v : Value-F Value) (l : ℕ) → IsSetOf P u → Differ keys → l < length keys → IsIn (mapping (domain keys) u) v → IsFilledIn (mapping (domain keys) u) v
    → IsMapRow (mapping (domain keys) u) v keys u l
map_row_is P keys u (Value-F.Map m) l sets_so differ within is filled =
    let row = keyed_row (λ (v : Value). members_in (out-Value v)) 0 (length keys) m l l is.0 (λ k above less none. is_said (λ v. IsFilledIn u (out-Value v)) (said_at m k) (filled k less) none) (omega arith) within in
    let right : (l < length keys) × IsIn u (out-Value row.0) = said_right (λ key v. (key < length keys) × IsIn u (out-Value v)) m l row.0 is.1 row.1 in
    record {
      names = λ texts. subst (λ (ns : List ℕ). IsMemberAt (mapping (domain keys) u) (Value-F.Map m) (get_or keys l []) texts ↔ Names (element u) ns texts) (sym row.2)
          (both_steps (keyed_says keys m l row.0 (λ x. IsMember u (out-Value x) texts) differ within row.1) (member_names P texts u (out-Value row.0) sets_so right.1));
      below = subst (AllBelow (count (element u))) (sym row.2) (members_below P u (out-Value row.0) sets_so right.1);
    }
map_row_is P keys u _ l sets_so differ within is filled = absurd is

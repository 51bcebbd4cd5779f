-- A box that agrees with a prefix: what remains of the decisions that stand there, and what tests make of it.
use Rattle.xdg_facts.proofs.Fitting.{fits_length}
use Rattle.std.proofs.Common.{◌≡◌, ℕ, ◌+◌, ◌-◌, ◌<◌, ◌≤◌, ◌↔◌, inl, inr, zero, suc, Bool, true, false, ◌&&◌, cond, List, [], ◌∷◌, ◌++◌, length, map, drop, refl, sym, ap, ap₂, ◌∙◌, arith, Option, Some, None}
use Rattle.std.specs.Prelude.{filter, Contains, All, slice_index, slice_index_or, ◌==◌}
use Rattle.std.proofs.lemmas.Bool.{cases_lt, eq-eqb, eqb-true, false≢true}
use Rattle.std.proofs.lemmas.List.{length-map, get_or_default, get_or-drop}
use Rattle.std.proofs.lemmas.List.Elements.{All-weaker, All-contains, All-contains_itself, All-from_recursion}
use Rattle.xdg_facts.specs.Fits.{Fits}
use Rattle.xdg_problem.specs.declared.analysis.Edge.{Edge}
use Rattle.xdg_problem.specs.declared.parts.Group.{Group}
use Rattle.xdg_problem.specs.declared.parts.Parts.{Parts}
use Rattle.xdg_problem.specs.Analyses.{Before}
use Rattle.xdg_problem.specs.Live.{open_places, EntryStands, entry_in, AttrStands, attr_in, Stands, Holds}
use Rattle.xdg_problem.specs.Places.{nodes, places, same_edge}
use Rattle.xdg_problem.specs.Tests.{Test, looks_at, entry_node, test_attrs}
use Rattle.xdg_problem.specs.Vectors.{first_place, chosen, edges_in}
use Rattle.xdg_problem.proofs.Edges.{same_edge_itself, before_apart}
use Rattle.xdg_facts.proofs.Filters.{filter_both, filter_alike}
use Rattle.xdg_facts.proofs.InOrder.{Ordered}
use Rattle.xdg_facts.proofs.Each.{map_alike}
use Rattle.xdg_facts.proofs.Contained.{contains_cases, contains_none}
use Rattle.xdg_facts.proofs.Keeping.{filter_on}
use Rattle.xdg_problem.proofs.PlaceOrder.{places_ordered}
use Rattle.xdg_problem.proofs.Shortening.{passes_like}
use Rattle.xdg_problem.specs.Boxes.{Has, Agrees, place_in, edge_decision, entry_decision}
use Rattle.xdg_rules.specs.Rules.{has, IsDecided, value_in, EntryDecided, entry_value, TestDecided, TestPasses}
use Rattle.xdg_rules.proofs.Failing.{value_is}
use Rattle.xdg_facts.proofs.Truths.{same_flag, and_carried}
use Rattle.xdg_facts.proofs.Lists.{true_within}

-- what remains of a decision of the prefix is its number
pub agrees_at : (box : List (List Bool)) (p : List ℕ) → Agrees box p → (d : ℕ) → d < length p → (v : ℕ) → Has box d v ↔ (v ≡ slice_index p d)
agrees_at box [] agrees d l v = absurd (omega (arith, l))
agrees_at [] (x ∷ p) agrees d l v = absurd agrees
agrees_at (row ∷ box) (x ∷ p) agrees zero l v = agrees.0 v
agrees_at (row ∷ box) (x ∷ p) agrees (suc d) l v = agrees_at box p agrees.1 d (omega (arith, l)) v

-- the prefix goes with the sizes of the box
pub agrees_fits : (box : List (List Bool)) (p : List ℕ) → Agrees box p → Fits (map length box) p
agrees_fits box [] agrees = tt
agrees_fits [] (x ∷ p) agrees = absurd agrees
agrees_fits (row ∷ box) (x ∷ p) agrees = (true_within row x ((agrees.0 x).1 refl), agrees_fits box p agrees.1)

-- and is no longer than the box
pub agrees_short : (box : List (List Bool)) (p : List ℕ) → Agrees box p → length p ≤ length box
agrees_short box p agrees = (let short = fits_length (map length box) p (agrees_fits box p agrees) in omega (arith, short, length-map box length))

-- a box agrees with each front of what it agrees with
pub agrees_front : (box : List (List Bool)) (p t : List ℕ) → Agrees box (p ++ t) → Agrees box p
agrees_front box [] t agrees = tt
agrees_front [] (x ∷ p) t agrees = absurd agrees
agrees_front (row ∷ box) (x ∷ p) t agrees = (agrees.0, agrees_front box p t agrees.1)

-- the number of a place says that its edge is present; a place without a number has none
abbrev pub says_present : List ℕ → ℕ → Bool
says_present numbers k = slice_index_or numbers k 1 == 0

none_chosen : (edges : List Edge) (all : List Edge) → filter (λ e. says_present [] (place_in all e)) edges ≡ []
none_chosen [] all = refl
none_chosen (e ∷ edges) all = none_chosen edges all

-- the chosen edges are those whose number says so
chosen_filter : (edges : List Edge) (numbers : List ℕ) → Ordered Before edges → chosen edges numbers ≡ filter (λ e. says_present numbers (place_in edges e)) edges
chosen_filter [] numbers ordered = refl
chosen_filter (e ∷ edges) [] ordered = sym (none_chosen (e ∷ edges) (e ∷ edges))
chosen_filter (e ∷ edges) (number ∷ numbers) ordered = ap₂ (λ b rest. cond b (e ∷ rest) rest) here (chosen_filter edges numbers ordered.1 ∙ later) where
  here : (number == 0) ≡ says_present (number ∷ numbers) (place_in (e ∷ edges) e)
  here = rw (same_edge_itself e) refl

  step : (f : Edge) → Before e f → says_present numbers (place_in edges f) ≡ says_present (number ∷ numbers) (place_in (e ∷ edges) f)
  step f before = rw (before_apart e f before) refl

  later : filter (λ f. says_present numbers (place_in edges f)) edges ≡ filter (λ f. says_present (number ∷ numbers) (place_in (e ∷ edges) f)) edges
  later = filter_alike (λ f. says_present numbers (place_in edges f)) (λ f. says_present (number ∷ numbers) (place_in (e ∷ edges) f)) edges
      (All-weaker (Before e) (λ f. says_present numbers (place_in edges f) ≡ says_present (number ∷ numbers) (place_in (e ∷ edges) f)) step edges (All-from_recursion (Before e) edges ordered.0))

-- the edges of a prefix are the places whose decision is present in it
pub edges_present : (parts : Parts) (p : List ℕ) → edges_in parts p ≡ filter (λ e. says_present p (edge_decision parts e)) (places parts)
edges_present parts p = chosen_filter (places parts) (drop (first_place parts) p) (places_ordered parts)
    ∙ filter_alike (λ e. says_present (drop (first_place parts) p) (place_in (places parts) e)) (λ e. says_present p (edge_decision parts e)) (places parts)
    (λ k d l. ap (λ n. n == 0) (get_or-drop (first_place parts) p (place_in (places parts) _) 1))

later_place : (b : Bool) (n k : ℕ) → suc n ≤ cond b 0 (suc k) → (b ≡ false) × (n ≤ k)
later_place true n k l = absurd (omega (arith, l))
later_place false n k l = (refl, omega (arith, l))

-- what is said of all edges from a number on is said of an edge with a later number
dropped_later : (edges : List Edge) (n : ℕ) (e : Edge) (P : Edge → Type 0) → All P (drop n edges) → Contains edges e → n ≤ place_in edges e → P e
dropped_later edges zero e P all c later = All-contains P edges e all c
dropped_later [] (suc n) e P all c later = absurd (contains_none e c)
dropped_later (f ∷ edges) (suc n) e P all c later = elim (contains_cases f edges e c) [
  | inl is ↦ absurd (false≢true (sym (later_place (same_edge f e) n (place_in edges e) later).0 ∙ ap (λ x. same_edge x e) is ∙ same_edge_itself e))
  | inr rest ↦ dropped_later edges n e P all rest (later_place (same_edge f e) n (place_in edges e) later).1
]

module _ (parts : Parts) (box : List (List Bool)) (p : List ℕ) (agrees : Agrees box p) where
  pub at : (d : ℕ) → d < length p → (v : ℕ) → Has box d v ↔ (v ≡ slice_index p d)
  at = agrees_at box p agrees

  pub decided_at : (d : ℕ) → d < length p → IsDecided box d
  decided_at d l = (slice_index p d, (at d l (slice_index p d)).1 refl, λ x remains. (at d l x).0 remains)

  pub value_at : (d : ℕ) → d < length p → value_in box d ≡ slice_index p d
  unfolding decided_at
  value_at d l = value_is box d (decided_at d l)

  pub present_at : (d : ℕ) → d < length p → says_present p d ≡ has box d 0
  present_at d l =
      let same : slice_index_or p d 1 ≡ slice_index p d = get_or_default p d 1 0 l in
      same_flag (says_present p d) (has box d 0)
      (λ yes_is. (at d l 0).1 (sym (sym same ∙ eqb-true (slice_index_or p d 1) 0 yes_is)))
      (λ there. eq-eqb (slice_index_or p d 1) 0 (same ∙ sym ((at d l 0).0 there)))

  entry_decided : (node : Option ℕ) → EntryStands node p → EntryDecided box node
  entry_decided None stands = tt
  entry_decided (Some node) stands = decided_at (entry_decision node) stands

  entry_like : (node : Option ℕ) → EntryStands node p → entry_in node p ≡ entry_value box node
  entry_like None stands = refl
  entry_like (Some node) stands = sym (value_at (entry_decision node) stands)

  attrs_decided : (attrs : List ℕ) → All (AttrStands parts p) attrs → All (λ place. IsDecided box (length parts.candidates + place)) attrs
  attrs_decided attrs stand = All-weaker (AttrStands parts p) (λ place. IsDecided box (length parts.candidates + place)) (λ place l. decided_at (length parts.candidates + place) l) attrs stand

  attrs_like : (attrs : List ℕ) → All (AttrStands parts p) attrs → map (attr_in parts p) attrs ≡ map (λ place. value_in box (length parts.candidates + place)) attrs
  attrs_like attrs stand = map_alike (attr_in parts p) (λ place. value_in box (length parts.candidates + place)) attrs
      (All-weaker (AttrStands parts p) (λ place. attr_in parts p place ≡ value_in box (length parts.candidates + place)) (λ place stands. sym (value_at (length parts.candidates + place) stands)) attrs stand)

  -- a place that isn't open stands in the prefix
  stands_at : (looks : Edge → Bool) → All (λ e. looks e ≡ false) (open_places parts p) → (e : Edge) → Contains (places parts) e → looks e ≡ true → edge_decision parts e < length p
  stands_at looks closed e c sees = elim (cases_lt (edge_decision parts e) (length p)) [
    | inl l ↦ l
    | inr later ↦ (let fails = dropped_later (places parts) (length p - first_place parts) e (λ x. looks x ≡ false) closed c (omega (arith, later)) in absurd (false≢true (sym fails ∙ sees)))
  ]

  edges_decided : (looks : Edge → Bool) → All (λ e. looks e ≡ false) (open_places parts p) → All (λ e. looks e ≡ true → IsDecided box (edge_decision parts e)) (places parts)
  edges_decided looks closed = All-weaker (Contains (places parts)) (λ e. looks e ≡ true → IsDecided box (edge_decision parts e)) (λ e c sees. decided_at (edge_decision parts e) (stands_at looks closed e c sees)) (places parts) (All-contains_itself (places parts))

  pub edges_like : (looks : Edge → Bool) → All (λ e. looks e ≡ false) (open_places parts p) → filter looks (edges_in parts p) ≡ filter (λ e. looks e && has box (edge_decision parts e) 0) (places parts)
  edges_like looks closed =
      ap (filter looks) (edges_present parts p)
      ∙ filter_both looks (λ e. says_present p (edge_decision parts e)) (places parts)
      ∙ filter_on (λ e. says_present p (edge_decision parts e) && looks e) (λ e. looks e && has box (edge_decision parts e) 0) (places parts)
      (λ e c. and_carried (says_present p (edge_decision parts e)) (looks e) (has box (edge_decision parts e) 0) (λ sees. present_at (edge_decision parts e) (stands_at looks closed e c sees)))

  -- a test that stands in the prefix is decided in the box
  pub stands_decided : (group : Group) (test : Test) → Stands parts group test p → TestDecided parts group box test
  stands_decided group test stands = record {
    entry = entry_decided (entry_node test) stands.entry;
    attrs = attrs_decided (test_attrs parts group test) stands.attrs;
    edges = edges_decided (looks_at group test) stands.edges;
  }

  -- and passes in both or in none
  pub holds_passes : (group : Group) (test : Test) → Stands parts group test p → Holds parts group test p ↔ TestPasses parts group box test
  holds_passes group test stands =
      let entry = entry_like (entry_node test) stands.entry in
      let values = attrs_like (test_attrs parts group test) stands.attrs in
      let edges = edges_like (looks_at group test) stands.edges in (
        passes_like (nodes parts) group test _ _ _ _ _ _ entry values edges,
        passes_like (nodes parts) group test _ _ _ _ _ _ (sym entry) (sym values) (sym edges),
      )

-- What follows for a box that lies in a larger one: what may be among its edges, and what must be.
use Rattle.std.proofs.Common.{◌≡◌, ℕ, ◌+◌, ◌<◌, ◌≤◌, ◌⊎◌, ◌↔◌, inl, inr, Bool, true, false, List, arith}
use Rattle.std.specs.Prelude.{Contains, count_by, not, ◌==◌, ◌&&◌}
use Rattle.std.proofs.lemmas.Bool.{and_parts, and_from, cases_Bool, not-true, not_from_false, eq-eqb, eqb-true, both_ways, false_from_ne_true}
use Rattle.xdg_problem.specs.declared.analysis.Edge.{Edge}
use Rattle.xdg_problem.specs.declared.parts.Parts.{Parts}
use Rattle.xdg_problem.specs.Paths.{Above}
use Rattle.xdg_problem.specs.Places.{nodes, places}
use Rattle.xdg_problem.specs.Vectors.{shape}
use Rattle.std.proofs.lemmas.List.Elements.{All-weaker, All-contains_itself}
use Rattle.xdg_facts.proofs.Filters.{filter_contained}
use Rattle.xdg_facts.proofs.Contained.{contains_filter}
use Rattle.xdg_facts.proofs.Keeping.{Less, less_among, less_count, strictly_count}
use Rattle.xdg_problem.proofs.PlaceOrder.{is_place}
use Rattle.xdg_problem.proofs.TreeTests.{above_within}
use Rattle.xdg_problem.specs.Boxes.{Has, IsBox, LiesIn, May, Must, edge_decision}
use Rattle.xdg_rules.specs.Rules.{has, may_edges, must_edges, IsPlaceOn}
use Rattle.xdg_rules.proofs.Sizes.{edge_some}
use Rattle.xdg_rules.proofs.Among.{Among}

-- an edge of the dimension may be present
abbrev pub may_be : Parts → List (List Bool) → ℕ → Edge → Bool
may_be parts box dim e = (e.dim.0 == dim) && has box (edge_decision parts e) 0

-- an edge of the dimension must be present
abbrev pub must_be : Parts → List (List Bool) → ℕ → Edge → Bool
must_be parts box dim e = (e.dim.0 == dim) && (has box (edge_decision parts e) 0 && not (has box (edge_decision parts e) 1))

-- what an edge that may be, and one that must be, is
pub record IsMay (parts : Parts) (box : List (List Bool)) (dim : ℕ) (e : Edge) : Type 0 where
  pub place : Contains (places parts) e
  pub dim_is : e.dim.0 ≡ dim
  pub present : Has box (edge_decision parts e) 0

pub record IsMust (parts : Parts) (box : List (List Bool)) (dim : ℕ) (e : Edge) : Type 0 where
  pub place : Contains (places parts) e
  pub dim_is : e.dim.0 ≡ dim
  pub present : Has box (edge_decision parts e) 0
  pub not_absent : has box (edge_decision parts e) 1 ≡ false

module _ (parts : Parts) (box : List (List Bool)) (dim : ℕ) (e : Edge) where
  pub may_test : e.dim.0 ≡ dim → Has box (edge_decision parts e) 0 → may_be parts box dim e ≡ true
  may_test d present = and_from (e.dim.0 == dim) (has box (edge_decision parts e) 0) (eq-eqb e.dim.0 dim d) present

  pub must_test : e.dim.0 ≡ dim → Has box (edge_decision parts e) 0 → has box (edge_decision parts e) 1 ≡ false → must_be parts box dim e ≡ true
  must_test d present absent =
      and_from (e.dim.0 == dim) (has box (edge_decision parts e) 0 && not (has box (edge_decision parts e) 1)) (eq-eqb e.dim.0 dim d)
      (and_from (has box (edge_decision parts e) 0) (not (has box (edge_decision parts e) 1)) present (not_from_false (has box (edge_decision parts e) 1) absent))

  pub may_of : IsMay parts box dim e → Contains (may_edges parts box dim) e
  may_of may = contains_filter (may_be parts box dim) (places parts) e (may_test may.dim_is may.present) may.place

  pub must_of : IsMust parts box dim e → Contains (must_edges parts box dim) e
  must_of must = contains_filter (must_be parts box dim) (places parts) e (must_test must.dim_is must.present must.not_absent) must.place

  may_parts : may_be parts box dim e ≡ true → (e.dim.0 ≡ dim) × Has box (edge_decision parts e) 0
  may_parts passes = (let both = and_parts (e.dim.0 == dim) (has box (edge_decision parts e) 0) passes in (eqb-true e.dim.0 dim both.0, both.1))

  must_parts : must_be parts box dim e ≡ true → (e.dim.0 ≡ dim) × Has box (edge_decision parts e) 0 × (has box (edge_decision parts e) 1 ≡ false)
  must_parts passes =
      let both = and_parts (e.dim.0 == dim) (has box (edge_decision parts e) 0 && not (has box (edge_decision parts e) 1)) passes in
      let two = and_parts (has box (edge_decision parts e) 0) (not (has box (edge_decision parts e) 1)) both.1 in
      (eqb-true e.dim.0 dim both.0, two.0, not-true (has box (edge_decision parts e) 1) two.1)

  pub may_is : Contains (may_edges parts box dim) e → IsMay parts box dim e
  may_is c =
      let both = filter_contained (may_be parts box dim) (places parts) e c in
      let is = may_parts both.1 in
      record { place = both.0; dim_is = is.0; present = is.1 }

  pub must_is : Contains (must_edges parts box dim) e → IsMust parts box dim e
  must_is c =
      let both = filter_contained (must_be parts box dim) (places parts) e c in
      let is = must_parts both.1 in
      record { place = both.0; dim_is = is.0; present = is.1; not_absent = is.2 }

  -- a place is among the edges that may be, or it isn't
  pub may_or_not : Contains (places parts) e → (Contains (may_edges parts box dim) e) ⊎ (Contains (may_edges parts box dim) e → ⊥)
  may_or_not place = elim (cases_Bool (may_be parts box dim e)) [
    | inl passes ↦ inl (contains_filter (may_be parts box dim) (places parts) e passes place)
    | inr fails ↦ inr (λ c. both_ways (may_be parts box dim e) fails (filter_contained (may_be parts box dim) (places parts) e c).1)
  ]

-- the edges that may be are the places that may be, and those that must be the places that must be
pub may_exact : (parts : Parts) (box : List (List Bool)) (dim : ℕ) (e : Edge) → Contains (may_edges parts box dim) e ↔ (IsPlaceOn parts dim e × May parts box e)
may_exact parts box dim e = (
  λ c. (let is = may_is parts box dim e c in ((is.place, is.dim_is), is.present)),
  λ both. may_of parts box dim e (record { place = both.0.0; dim_is = both.0.1; present = both.1 }),
)

pub must_exact : (parts : Parts) (box : List (List Bool)) (dim : ℕ) (e : Edge) → IsBox (shape parts) box → Contains (must_edges parts box dim) e ↔ (IsPlaceOn parts dim e × Must parts box e)
must_exact parts box dim e is = (
  λ c. (let all = must_is parts box dim e c in ((all.place, all.dim_is), λ absent. both_ways (has box (edge_decision parts e) 1) all.not_absent absent)),
  λ both. must_of parts box dim e (record {
    place = both.0.0;
    dim_is = both.0.1;
    present = elim (edge_some parts box is e both.0.0) [ inl here ↦ here | inr there ↦ absurd (both.1 there) ];
    not_absent = false_from_ne_true (has box (edge_decision parts e) 1) both.1;
  }),
)

-- the mother of an edge that must be, or of one on a path to it, is a node
pub barrier_within : (parts : Parts) (box : List (List Bool)) (dim barrier u : ℕ) → u < nodes parts → (barrier ≡ u) ⊎ Above (must_edges parts box dim) barrier u → barrier < nodes parts
barrier_within parts box dim barrier u within (inl here) = omega (arith, here, within)
barrier_within parts box dim barrier u within (inr over) = above_within (nodes parts) (must_edges parts box dim) barrier u
    (All-weaker (Contains (must_edges parts box dim)) (λ e. e.mother.0 < nodes parts) (λ e c. (is_place parts e (must_is parts box dim e c).place).mother) (must_edges parts box dim) (All-contains_itself (must_edges parts box dim))) over

-- what the small box has of the edges of a dimension the large one has too
abbrev pub EdgesLie : Parts → ℕ → List (List Bool) → List (List Bool) → Type 0
EdgesLie parts dim small large = (e : Edge) → IsPlaceOn parts dim e → (v : ℕ) → Has small (edge_decision parts e) v → Has large (edge_decision parts e) v

module _ (parts : Parts) (dim : ℕ) (small large : List (List Bool)) (lies : EdgesLie parts dim small large) where
  pub less_may : Less (may_be parts small dim) (may_be parts large dim) (places parts)
  less_may e c passes = (let both = may_parts parts small dim e passes in may_test parts large dim e both.0 (lies e (c, both.0) 0 both.1))

  pub among_may : Among (may_edges parts small dim) (may_edges parts large dim)
  among_may = less_among (may_be parts small dim) (may_be parts large dim) (places parts) less_may

  pub less_must : IsBox (shape parts) small → Less (must_be parts large dim) (must_be parts small dim) (places parts)
  less_must is e c passes =
      let all = must_parts parts large dim e passes in
      let absent : has small (edge_decision parts e) 1 ≡ false = false_from_ne_true (has small (edge_decision parts e) 1) (λ there. both_ways (has large (edge_decision parts e) 1) all.2 (lies e (c, all.0) 1 there)) in
      let present : Has small (edge_decision parts e) 0 = elim (edge_some parts small is e c) [ inl here ↦ here | inr there ↦ absurd (both_ways (has small (edge_decision parts e) 1) absent there) ] in
      must_test parts small dim e all.0 present absent

  pub among_must : IsBox (shape parts) small → Among (must_edges parts large dim) (must_edges parts small dim)
  among_must is = less_among (must_be parts large dim) (must_be parts small dim) (places parts) (less_must is)

module _ (parts : Parts) (small large : List (List Bool)) (is : IsBox (shape parts) small) (lies : LiesIn small large) where
  pub may_less : (dim : ℕ) → Less (may_be parts small dim) (may_be parts large dim) (places parts)
  may_less dim = less_may parts dim small large (λ e on. lies (edge_decision parts e))

  pub must_less : (dim : ℕ) → Less (must_be parts large dim) (must_be parts small dim) (places parts)
  must_less dim = less_must parts dim small large (λ e on. lies (edge_decision parts e)) is

  pub may_among : (dim : ℕ) → Among (may_edges parts small dim) (may_edges parts large dim)
  may_among dim = less_among (may_be parts small dim) (may_be parts large dim) (places parts) (may_less dim)

  pub must_among : (dim : ℕ) → Among (must_edges parts large dim) (must_edges parts small dim)
  must_among dim = less_among (must_be parts large dim) (must_be parts small dim) (places parts) (must_less dim)

  pub may_count : (dim : ℕ) (test : Edge → Bool) → count_by test (may_edges parts small dim) ≤ count_by test (may_edges parts large dim)
  may_count dim test = less_count (may_be parts small dim) (may_be parts large dim) test (places parts) (may_less dim)

  pub must_count : (dim : ℕ) (test : Edge → Bool) → count_by test (must_edges parts large dim) ≤ count_by test (must_edges parts small dim)
  must_count dim test = less_count (must_be parts large dim) (must_be parts small dim) test (places parts) (must_less dim)

  -- an edge that may be in the large box alone makes one more there
  pub may_count_more : (dim : ℕ) (test : Edge → Bool) (e : Edge) → test e ≡ true → Contains (may_edges parts large dim) e → (Contains (may_edges parts small dim) e → ⊥) → count_by test (may_edges parts small dim) + 1 ≤ count_by test (may_edges parts large dim)
  may_count_more dim test = strictly_count (may_be parts small dim) (may_be parts large dim) test (places parts) (may_less dim)

  -- an edge that must be in the small box alone makes one more there
  pub must_count_more : (dim : ℕ) (test : Edge → Bool) (e : Edge) → test e ≡ true → Contains (must_edges parts small dim) e → (Contains (must_edges parts large dim) e → ⊥) → count_by test (must_edges parts large dim) + 1 ≤ count_by test (must_edges parts small dim)
  must_count_more dim test = strictly_count (must_be parts large dim) (must_be parts small dim) test (places parts) (must_less dim)

-- Where the rule of entries of valency takes nothing that remains no decided test of valency fails.
use Rattle.std.proofs.Common.{◌≡◌, ℕ, ◌<◌, ◌≤◌, ◌+◌, ◌⊎◌, ◌&&◌, inl, inr, Bool, true, List, length, refl, sym, ◌∙◌, subst, arith}
use Rattle.std.specs.Prelude.{All, Contains, filter, nat_le, ◌==◌, count_by}
use Rattle.std.specs.List.{list_any}
use Rattle.std.proofs.lemmas.Bool.{and_parts, and_from, both_ways, cases_Bool, eqb-true, le-leb, leb-true, false_from_ne_true}
use Rattle.std.proofs.lemmas.List.Elements.{All-contains}
use Rattle.xdg_problem.specs.declared.analysis.Edge.{Edge}
use Rattle.xdg_problem.specs.declared.parts.Group.{Group}
use Rattle.xdg_problem.specs.declared.parts.Parts.{Parts}
use Rattle.xdg_problem.specs.Analyses.{IsPlace}
use Rattle.xdg_problem.specs.Arguments.{first_dim, label_count}
use Rattle.xdg_problem.specs.Boxes.{Has, entry_decision, edge_decision}
use Rattle.xdg_problem.specs.Features.{in_row, out_row}
use Rattle.xdg_problem.specs.Paths.{edges_into, edges_out_of}
use Rattle.xdg_problem.specs.Places.{nodes, places}
use Rattle.xdg_problem.specs.Tests.{Test, Counts, looks_at, out_count, in_count}
use Rattle.xdg_facts.proofs.Filters.{count_of_filter}
use Rattle.xdg_facts.proofs.Contained.{any_passes, list_any_of}
use Rattle.xdg_facts.proofs.Keeping.{less_length}
use Rattle.xdg_problem.proofs.PlaceOrder.{is_place}
use Rattle.xdg_rules.specs.Rules.{has, IsDecided, HasNoneWithin, TestDecided, TestPasses, ValencyEntry, may_edges, must_edges, value_in}
use Rattle.xdg_propcore.proofs.SeenEdges.{value_has}
use Rattle.xdg_rules.proofs.Shrinking.{may_be, must_be, must_test}

-- a number of a list lies between two others, or none does
some_within : (xs : List ℕ) (least most : ℕ) → ((k : ℕ) × Contains xs k × (least ≤ k) × (k ≤ most)) ⊎ HasNoneWithin xs least most
some_within xs least most = elim (cases_Bool (list_any (λ k. nat_le least k && nat_le k most) xs)) [
  | inl some ↦ (
      let found = any_passes (λ k. nat_le least k && nat_le k most) xs some in
      let both = and_parts (nat_le least found.0) (nat_le found.0 most) found.2 in
      inl (found.0, found.1, leb-true least found.0 both.0, leb-true found.0 most both.1))
  | inr none ↦ inr (λ k c from to. both_ways (list_any (λ k. nat_le least k && nat_le k most) xs) none
      (list_any_of (λ k. nat_le least k && nat_le k most) xs k c (and_from (nat_le least k) (nat_le k most) (le-leb least k from) (le-leb k most to))))
]

-- what the test of a bundle looks at
looked_parts : (d dim n v m l f k : ℕ) → ((d == dim) && (n == v) && (m == l) && nat_le f k) ≡ true → (d ≡ dim) × (((n == v) && (m == l)) ≡ true)
looked_parts d dim n v m l f k h = grind arith

looked_from : (d dim n v m l f k : ℕ) → d ≡ dim → ((n == v) && (m == l)) ≡ true → f ≤ k → ((d == dim) && (n == v) && (m == l) && nat_le f k) ≡ true
looked_from d dim n v m l f k on h order = grind arith

module _ (parts : Parts) (group : Group) (box : List (List Bool)) where
  abbrev dim : ℕ
  dim = first_dim group

  module _ (test : Test) (inside : Edge → Bool) (k : ℕ) (to : (e : Edge) → looks_at group test e ≡ true → (e.dim.0 ≡ dim) × (inside e ≡ true))
      (from : (e : Edge) → IsPlace parts e → e.dim.0 ≡ dim → inside e ≡ true → k + 1 ≡ nodes parts → looks_at group test e ≡ true)
      (decided : All (λ e. looks_at group test e ≡ true → IsDecided box (edge_decision parts e)) (places parts)) where
    -- the edges that are present at the places of the test
    abbrev seen : Edge → Bool
    seen e = looks_at group test e && has box (edge_decision parts e) 0

    few : length (filter seen (places parts)) ≤ count_by inside (must_edges parts box dim)
    few =
        let less = less_length seen (λ e. must_be parts box dim e && inside e) (places parts) (λ e place h.
        let both = and_parts (looks_at group test e) (has box (edge_decision parts e) 0) h in
        let is = to e both.0 in
        let one = All-contains (λ f. looks_at group test f ≡ true → IsDecided box (edge_decision parts f)) (places parts) e decided place both.0 in
        and_from (must_be parts box dim e) (inside e)
        (must_test parts box dim e is.0 both.1
        (false_from_ne_true (has box (edge_decision parts e) 1) (λ there. (let a = one.2 0 both.1 in let b = one.2 1 there in omega (arith, a, b)))))
        is.1) in
        subst (λ m. length (filter seen (places parts)) ≤ m) (count_of_filter inside (must_be parts box dim) (places parts)) less

    many : k + 1 ≡ nodes parts → count_by inside (may_edges parts box dim) ≤ length (filter seen (places parts))
    many last =
        let less = less_length (λ e. may_be parts box dim e && inside e) seen (places parts) (λ e place h.
        let both = and_parts (may_be parts box dim e) (inside e) h in
        let may = and_parts (e.dim.0 == dim) (has box (edge_decision parts e) 0) both.0 in
        and_from (looks_at group test e) (has box (edge_decision parts e) 0) (from e (is_place parts e place) (eqb-true e.dim.0 dim may.0) both.1 last)
        may.1) in
        subst (λ m. m ≤ length (filter seen (places parts))) (count_of_filter inside (may_be parts box dim) (places parts)) less

    counts : (row : List ℕ) → (HasNoneWithin row (count_by inside (must_edges parts box dim)) (count_by inside (may_edges parts box dim)) → ⊥)
        → Counts (nodes parts) k row (length (filter seen (places parts)))
    counts row some = elim (some_within row (count_by inside (must_edges parts box dim)) (count_by inside (may_edges parts box dim))) [
      | inl x ↦ (
        (x.0, x.1, (let f = few in let l = x.2 in omega (arith, f, l))),
        λ last. (let f = few in
            let m = many last in
            let l = x.2 in let h = x.3 in let e : x.0 ≡ length (filter seen (places parts)) = omega (arith, f, m, l, h) in subst (Contains row) e x.1),
      )
      | inr none ↦ absurd (some none)
    ]

  -- the test of a bundle, by its node, its label, and the other nodes up to one
  bundle_counts : (near far : Edge → ℕ) (test : Test) (v l k : ℕ) → ((e : Edge) → looks_at group test e ≡ ((e.dim.0 == dim) && (near e == v) && (e.label.0 == l) && nat_le (far e) k)) → ((e : Edge) → IsPlace parts e → far e < nodes parts)
      → All (λ e. looks_at group test e ≡ true → IsDecided box (edge_decision parts e)) (places parts) → (row : List ℕ)
      → (HasNoneWithin row (count_by (λ e. (near e == v) && (e.label.0 == l)) (must_edges parts box dim)) (count_by (λ e. (near e == v) && (e.label.0 == l)) (may_edges parts box dim)) → ⊥)
      → Counts (nodes parts) k row (length (filter (λ e. looks_at group test e && has box (edge_decision parts e) 0) (places parts)))
  bundle_counts near far test v l k looks below decided = counts test (λ e. (near e == v) && (e.label.0 == l)) k
      (λ e h. looked_parts e.dim.0 dim (near e) v e.label.0 l (far e) k (sym (looks e) ∙ h))
      (λ e place on h last. (let within = below e place in looks e ∙ looked_from e.dim.0 dim (near e) v e.label.0 l (far e) k on h (omega (arith, within, last))))
      decided

  abbrev KeepsEntries : Type 0
  KeepsEntries = (d c : ℕ) → Has box d c → ValencyEntry parts group box d c → ⊥

  -- the value of a decided entry is one of those that the rule keeps
  kept : (v l : ℕ) → v < nodes parts → l < label_count parts dim → IsDecided box (entry_decision v) → KeepsEntries
      → HasNoneWithin (out_row group v (value_in box (entry_decision v)) l) (edges_out_of (must_edges parts box dim) v l) (edges_out_of (may_edges parts box dim) v l)
      ⊎ HasNoneWithin (in_row group v (value_in box (entry_decision v)) l) (edges_into (must_edges parts box dim) v l) (edges_into (may_edges parts box dim) v l) → ⊥
  kept v l within known decided keeps none = keeps (entry_decision v) (value_in box (entry_decision v)) (value_has box (entry_decision v) decided)
      (record { node = v; within = within; label = l; known = known; is = refl; none = none })

  pub out_passes : (v l k : ℕ) → v < nodes parts → l < label_count parts dim → TestDecided parts group box (out_count v l k) → KeepsEntries → TestPasses parts group box (out_count v l k)
  out_passes v l k within known decided keeps =
      bundle_counts (λ e. e.mother.0) (λ e. e.daughter.0) (out_count v l k) v l k (λ e. refl) (λ e place. place.daughter) decided.edges (out_row group v (value_in box (entry_decision v)) l)
      (λ none. kept v l within known decided.entry keeps (inl none))

  pub in_passes : (v l k : ℕ) → v < nodes parts → l < label_count parts dim → TestDecided parts group box (in_count v l k) → KeepsEntries → TestPasses parts group box (in_count v l k)
  in_passes v l k within known decided keeps =
      bundle_counts (λ e. e.daughter.0) (λ e. e.mother.0) (in_count v l k) v l k (λ e. refl) (λ e place. place.mother) decided.edges (in_row group v (value_in box (entry_decision v)) l)
      (λ none. kept v l within known decided.entry keeps (inr none))

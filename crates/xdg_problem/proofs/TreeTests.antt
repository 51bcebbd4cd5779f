-- On a whole vector the tests of mothers, cycles, roots and counts are the conditions of tree, dag and valency. Of a test for each node k, of the
-- edges from or to the nodes up to k, the one of the last node sees all edges.
use Rattle.std.proofs.Common.{◌≡◌, ℕ, ◌<◌, ◌+◌, ◌≤◌, ◌-◌, ◌↔◌, Bool, true, ◌&&◌, List, [], ◌∷◌, length, refl, sym, ap, ◌∙◌, subst, arith}
use Rattle.std.specs.Prelude.{filter, count_by, All, Contains, ◌==◌, nat_le, slice_index}
use Rattle.std.proofs.Math.Bool.{and_assoc}
use Rattle.std.proofs.lemmas.Bool.{and_parts, le-leb}
use Rattle.std.proofs.lemmas.List.Elements.{All-contains, All-filter, All-weaker, filter_agree}
use Rattle.xdg_problem.specs.declared.analysis.Edge.{Edge}
use Rattle.xdg_problem.specs.declared.conditions.Condition.TheVariants as conditions
use Rattle.xdg_problem.specs.declared.parts.Group.{Group}
use Rattle.xdg_problem.specs.declared.parts.Parts.{Parts}
use Rattle.xdg_problem.specs.Places.{nodes}
use Rattle.xdg_problem.specs.Paths.{edges_on, Leads, Above, NoCycle}
use Rattle.xdg_problem.specs.Features.{in_row, out_row}
use Rattle.xdg_problem.specs.Arguments.{first_dim, label_count}
use Rattle.xdg_problem.specs.Asking.{first, second, Asks}
use Rattle.xdg_problem.specs.Conditions.{AreBelow}
use Rattle.xdg_problem.specs.Relations.{IsKept}
use Rattle.xdg_problem.specs.Tests.{Test, one_mother, no_cycle, one_root, out_count, in_count, Counts}
use Rattle.xdg_facts.proofs.Filters.{count_of_filter, filter_alike, filter_among, filter_fewer}
use Rattle.xdg_facts.proofs.Truths.{and_true}
use Rattle.xdg_problem.proofs.Walks.{above_more}
use Rattle.xdg_problem.proofs.Tuples.{tuples}
use Rattle.xdg_problem.proofs.Passing.{PassesAt}
use Rattle.xdg_problem.proofs.EachTest.{EachNode, EachPair, EachTriple}

starts_within : (n : ℕ) (edges path : List Edge) (u v : ℕ) → All (λ e. e.mother.0 < n) edges → 0 < length path → All (Contains edges) path → Leads u path v → u < n
starts_within n edges [] u v within some along leads = absurd (omega (arith, some))
starts_within n edges (e ∷ path) u v within some along leads = subst (λ w. w < n) leads.0 (All-contains (λ e. e.mother.0 < n) edges e within (along 0 e (omega arith)))

-- what is above another node is a node
pub above_within : (n : ℕ) (edges : List Edge) (u v : ℕ) → All (λ e. e.mother.0 < n) edges → Above edges u v → u < n
above_within n edges u v within above = starts_within n edges above.path u v within above.some above.along above.leads

module _ (parts : Parts) (group : Group) (candidates attrs : List ℕ) (edges : List Edge) (some : 0 < nodes parts) where
  abbrev n : ℕ
  n = nodes parts

  abbrev labels : ℕ
  labels = label_count parts (first_dim group)

  abbrev on : List Edge
  on = edges_on (first_dim group) edges

  abbrev Passes : Test → Type 0
  Passes test = PassesAt parts group candidates attrs edges test

  last : (n - 1) + 1 ≡ n
  last = omega (arith, some)

  -- of the edges that pass a test those whose other node is at most k: where k is the last node, they are all
  module _ (far : Edge → ℕ) (all : Edge → Bool) (within : All (λ e. far e < n) edges) where
    abbrev upto : ℕ → List Edge
    upto k = filter (λ e. all e && nat_le (far e) k) edges

    upto_among : (k : ℕ) (e : Edge) → (all e && nat_le (far e) k) ≡ true → all e ≡ true
    upto_among k e looks = (and_parts (all e) (nat_le (far e) k) looks).0

    upto_last : (k : ℕ) → k + 1 ≡ n → upto k ≡ filter all edges
    upto_last k is = filter_alike (λ e. all e && nat_le (far e) k) all edges (All-weaker (λ e. far e < n) (λ e. (all e && nat_le (far e) k) ≡ all e)
        (λ e below. and_true (all e) (nat_le (far e) k) (le-leb (far e) k (omega arith))) edges within)

    -- what a test for each node asks of their number is what is asked of the number of all
    counted : (P : ℕ → ℕ → Type 0) (Q : ℕ → Type 0) (test : Edge → Bool) → ((e : Edge) → all e ≡ ((e.dim.0 == first_dim group) && test e)) → (P (n - 1) (count_by test on) → Q (count_by test on))
        → ((k part : ℕ) → Q (count_by test on) → part ≤ count_by test on → (k + 1 ≡ n → part ≡ count_by test on) → P k part)
        → ((k : ℕ) → k < n → P k (length (upto k))) ↔ Q (count_by test on)
    counted P Q test grouped whole part =
        let count : length (filter all edges) ≡ count_by test on = ap length (filter_agree all (λ e. (e.dim.0 == first_dim group) && test e) grouped edges) ∙ count_of_filter test (λ e. e.dim.0 == first_dim group) edges in (
          λ each. whole (subst (P (n - 1)) (ap length (upto_last (n - 1) last) ∙ count) (each (n - 1) (omega (arith, some)))),
          λ kept k below. part k (length (upto k)) kept (subst (λ m. length (upto k) ≤ m) count (filter_fewer (λ e. all e && nat_le (far e) k) all edges (upto_among k))) (λ is. ap length (upto_last k is) ∙ count),
        )

  -- counts of the edges at a node
  rows : (near far : Edge → ℕ) (row : ℕ → ℕ → List ℕ) → All (λ e. far e < n) edges
      → ((v : ℕ) → v < n → (l : ℕ) → l < labels → (k : ℕ) → k < n → Counts n k (row v l) (length (filter (λ e. ((e.dim.0 == first_dim group) && (near e == v) && (e.label.0 == l)) && nat_le (far e) k) edges)))
      ↔ ((tuple : List ℕ) → AreBelow (n ∷ labels ∷ []) tuple → Contains (row (first tuple) (second tuple)) (count_by (λ e. (near e == first tuple) && (e.label.0 == second tuple)) on))
  rows near far row within = tuples (n ∷ labels ∷ [])
      (λ t. (k : ℕ) → k < n → Counts n k (row (first t) (second t)) (length (filter (λ e. ((e.dim.0 == first_dim group) && (near e == first t) && (e.label.0 == second t)) && nat_le (far e) k) edges)))
      (λ t. Contains (row (first t) (second t)) (count_by (λ e. (near e == first t) && (e.label.0 == second t)) on))
      (λ v node l label. counted far (λ e. (e.dim.0 == first_dim group) && (near e == v) && (e.label.0 == l)) within (λ k. Counts n k (row v l)) (Contains (row v l)) (λ e. (near e == v) && (e.label.0 == l))
      (λ e. and_assoc (e.dim.0 == first_dim group) (near e == v) (e.label.0 == l)) (λ passes. passes.1 last)
      (λ k part allowed fewer same. ((count_by (λ e. (near e == v) && (e.label.0 == l)) on, allowed, fewer), λ is. subst (Contains (row v l)) (sym (same is)) allowed)))

  pub out_tests : All (λ e. e.daughter.0 < n) edges → EachTriple group.truths n labels Passes out_count ↔ IsKept parts group candidates attrs edges conditions.OutCount
  out_tests daughters = rows (λ e. e.mother.0) (λ e. e.daughter.0) (λ v l. out_row group v (slice_index candidates v) l) daughters

  module _ (within : All (λ e. e.mother.0 < n) edges) where
    pub in_tests : EachTriple group.truths n labels Passes in_count ↔ IsKept parts group candidates attrs edges conditions.InCount
    in_tests = rows (λ e. e.daughter.0) (λ e. e.mother.0) (λ v l. in_row group v (slice_index candidates v) l) within

    pub mother_tests : EachPair group.truths n labels Passes one_mother ↔ IsKept parts group candidates attrs edges conditions.Mothers
    mother_tests = tuples (n ∷ []) (λ t. (k : ℕ) → k < n → Passes (one_mother (first t) k)) (Asks conditions.Mothers parts group candidates attrs edges)
        (λ v node. counted (λ e. e.mother.0) (λ e. (e.dim.0 == first_dim group) && (e.daughter.0 == v)) within (λ k m. m ≤ 1) (λ m. m ≤ 1) (λ e. e.daughter.0 == v) (λ e. refl) (λ most. most)
        (λ k part most fewer same. omega (arith, most, fewer)))

    -- what is above itself is a node, so it is enough that no node is
    pub cycle_tests : EachNode group.truths n labels Passes no_cycle ↔ IsKept parts group candidates attrs edges conditions.Cycle
    cycle_tests =
        let all : Edge → Bool = λ e. e.dim.0 == first_dim group in
        let node = λ (v : ℕ) (above : Above on v v). above_within n on v v (All-filter all (λ e. e.mother.0 < n) edges within) above in (
          λ passes tuple is. subst NoCycle (upto_last (λ e. e.mother.0) all within (n - 1) last) (passes (n - 1) (omega (arith, some))) (first tuple),
          λ kept k below v above.
              let all_above = above_more (upto (λ e. e.mother.0) all within k) on (filter_among (λ e. all e && nat_le e.mother.0 k) all edges (upto_among (λ e. e.mother.0) all within k)) v v above in
              kept (v ∷ []) (node v all_above, tt) all_above,
        )

  pub root_tests : Passes one_root ↔ IsKept parts group candidates attrs edges conditions.Roots
  root_tests = (λ passes tuple is. ap first is ∙ passes, λ kept. kept (_ ∷ []) refl)

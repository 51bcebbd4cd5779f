-- What a box costs at the least: more in a smaller box, and where it agrees with a whole vector what the vector's analysis costs.
use Rattle.std.proofs.Common.{◌≡◌, ℕ, ◌+◌, ◌<◌, ◌≤◌, inl, inr, zero, suc, Bool, true, false, ◌&&◌, List, [], ◌∷◌, ◌++◌, length, map, refl, sym, ap, ap₂, ◌∙◌, arith, subst}
use Rattle.std.specs.Prelude.{Contains, not, slice_index, slice_index_or, ◌==◌}
use Rattle.std.specs.List.{sum_by}
use Rattle.std.proofs.lemmas.Bool.{and_parts, and_from, cases_Bool, eq-eqb, not_from_false, false≢true}
use Rattle.std.proofs.lemmas.List.Sums.{sum_by-cons}
use Rattle.xdg_base.specs.declared.ids.EntryNo.{EntryNo}
use Rattle.xdg_problem.specs.declared.analysis.Edge.{Edge}
use Rattle.xdg_problem.specs.declared.parts.Parts.{Parts}
use Rattle.xdg_problem.specs.Boxes.{Has, IsBox, LiesIn, Agrees, edge_decision, entry_decision}
use Rattle.xdg_problem.specs.Costs.{CostLists, entry_cost, total_cost}
use Rattle.xdg_problem.specs.Places.{nodes, places}
use Rattle.xdg_problem.specs.Problems.{IsProblem}
use Rattle.xdg_problem.specs.Vectors.{shape, entry_places, entries_at, edges_in}
use Rattle.xdg_rules.specs.Remaining.{has}
use Rattle.xdg_rules.specs.Bounds.{sum_below, candidate_cost, node_cost, edge_cost, must_places, least_cost, BoundReached, BoundPlace}
use Rattle.xdg_rules.proofs.Agreeing.{says_present, edges_present}
use Rattle.xdg_facts.proofs.Keeping.{Less, filter_on, less_sum, more_sum}
use Rattle.xdg_rules.proofs.Least.{least_less, least_single}
use Rattle.xdg_rules.proofs.Shrinking.{EdgesLie, less_must}
use Rattle.xdg_rules.proofs.Sizes.{within_sizes, node_within}
use Rattle.xdg_rules.proofs.Summing.{below_most, below_same, below_first}
use Rattle.xdg_rules.proofs.Whole.{entry_has, entry_is, not_both, present_must}

-- ---- sizes

first_size : (candidates : List (List EntryNo)) (rest : List ℕ) (v : ℕ) → v < length candidates → slice_index_or (map length candidates ++ rest) v 0 ≡ length (slice_index_or candidates v [])
first_size [] rest v l = absurd (omega (arith, l))
first_size (c ∷ candidates) rest zero l = refl
first_size (c ∷ candidates) rest (suc v) l = first_size candidates rest v (omega (arith, l))

-- what remains of a node's entries is a place among its candidates
pub candidate_within : (parts : Parts) (box : List (List Bool)) → IsProblem parts → IsBox (shape parts) box → (node place : ℕ) → node < nodes parts → Has box (entry_decision node) place → place < length (slice_index_or parts.candidates node [])
candidate_within parts box problem is node place within remains =
    subst (λ n. place < n) (first_size parts.candidates _ node (let each = problem.candidates_each in omega (arith, within, each)))
    (subst (λ sizes. place < slice_index_or sizes (entry_decision node) 0) is.sizes (within_sizes box (entry_decision node) place remains))

-- ---- a smaller box

-- an edge must be present
abbrev must_stand : Parts → List (List Bool) → Edge → Bool
must_stand parts box e = has box (edge_decision parts e) 0 && not (has box (edge_decision parts e) 1)

-- all entries and all edges that the small box has the large one has
pub record CostsLie (parts : Parts) (small large : List (List Bool)) : Type 0 where
  pub entries : (node c : ℕ) → node < nodes parts → Has small (entry_decision node) c → Has large (entry_decision node) c
  pub edges : (dim : ℕ) → EdgesLie parts dim small large

pub costs_lie : (parts : Parts) (small large : List (List Bool)) → LiesIn small large → CostsLie parts small large
costs_lie parts small large lies = record { entries = λ node c within. lies (entry_decision node) c; edges = λ dim e on. lies (edge_decision parts e) }

module _ (parts : Parts) (costs : CostLists) (small large : List (List Bool)) (problem : IsProblem parts) (is : IsBox (shape parts) small) (lies : CostsLie parts small large) where
  must_more : Less (must_stand parts large) (must_stand parts small) (places parts)
  must_more e c passes =
      (and_parts (e.dim.0 == e.dim.0) (must_stand parts small e)
      (less_must parts e.dim.0 small large (lies.edges e.dim.0) is e c (and_from (e.dim.0 == e.dim.0) (must_stand parts large e) (eq-eqb e.dim.0 e.dim.0 refl) passes))).1

  node_more : (node : ℕ) → node < nodes parts → node_cost parts costs large node ≤ node_cost parts costs small node
  node_more node within =
      let filled = is.filled (entry_decision node) (node_within parts node problem within) in
      least_less (has small (entry_decision node)) (has large (entry_decision node)) (candidate_cost parts costs node) (length (slice_index_or parts.candidates node []))
      (λ k. lies.entries node k within) filled.0 (candidate_within parts small problem is node filled.0 within filled.1) filled.1

  -- it costs at least as much
  pub cost_more : least_cost parts costs large ≤ least_cost parts costs small
  cost_more =
      let entries = below_most (node_cost parts costs large) (node_cost parts costs small) (nodes parts) node_more in
      let edges = less_sum (edge_cost costs) (must_stand parts large) (must_stand parts small) (places parts) must_more in
      omega (arith, entries, edges)

  -- and more by an edge that must be there alone
  pub cost_with : (e : Edge) → Contains (places parts) e → must_stand parts large e ≡ false → must_stand parts small e ≡ true → least_cost parts costs large + edge_cost costs e ≤ least_cost parts costs small
  cost_with e place free must =
      let entries = below_most (node_cost parts costs large) (node_cost parts costs small) (nodes parts) node_more in
      let edges = more_sum (edge_cost costs) (must_stand parts large) (must_stand parts small) (places parts) must_more e place free must in
      omega (arith, entries, edges)

  -- where the cost of the small box doesn't reach a bound, and it takes no edge that remains, the large one takes none
  pub bound_kept : (bound d v : ℕ) → (BoundReached parts costs bound small → ⊥) → (BoundPlace parts costs bound small d v → ⊥) → Has small d v → BoundPlace parts costs bound large d v → ⊥
  bound_kept bound d v below none remains rule =
      let place : Edge = rule.place in
      let k : ℕ = edge_decision parts place in
      let present : Has small k 0 = subst (λ i. Has small k i) rule.says.1 (subst (λ i. Has small i v) rule.says.0 remains) in
      let off : must_stand parts large place ≡ false = not_must (has large k 0) (has large k 1) rule.free in
      elim (cases_Bool (has small k 1)) [
        | inl absent ↦ none (record { place = place; is = rule.is; says = rule.says; free = absent; reaches = (let more = cost_more in let reach = rule.reaches in omega (arith, more, reach)) })
        | inr must ↦ below (let more = cost_with place rule.is off (and_from (has small k 0) (not (has small k 1)) present (not_from_false (has small k 1) must)) in let reach = rule.reaches in omega (arith, more, reach))
      ]
    where
      not_must : (a b : Bool) → b ≡ true → (a && not b) ≡ false
      not_must true true there = refl
      not_must false true there = refl
      not_must a false there = absurd (false≢true there)

-- ---- the box of a whole vector

-- what the entries at places cost is what each costs, together
entries_sum : (f : EntryNo → ℕ) (candidates : List (List EntryNo)) (numbers : List ℕ) → length numbers ≡ length candidates → sum_by f (entries_at candidates numbers) ≡ sum_below (λ v. f (slice_index_or (slice_index_or candidates v []) (slice_index numbers v) (record { 0 = 0 }))) (length candidates)
entries_sum f [] numbers long = refl
entries_sum f (c ∷ candidates) [] long = absurd (omega (arith, long))
entries_sum f (c ∷ candidates) (number ∷ numbers) long =
    let entry : EntryNo = slice_index_or c number (record { 0 = 0 }) in
    let rest = entries_sum f candidates numbers (omega (arith, long)) in
    sum_by-cons f entry (entries_at candidates numbers) ∙ ap (λ k. f entry + k) rest
    ∙ sym (below_first (λ v. f (slice_index_or (slice_index_or (c ∷ candidates) v []) (slice_index (number ∷ numbers) v) (record { 0 = 0 }))) (length candidates))

module _ (parts : Parts) (costs : CostLists) (box : List (List Bool)) (x : List ℕ) (problem : IsProblem parts) (is : IsBox (shape parts) box) (whole : length x ≡ length (shape parts)) (agrees : Agrees box x) where
  abbrev chosen_places : List ℕ
  chosen_places = entry_places parts.candidates (entries_at parts.candidates x)

  node_whole : (node : ℕ) → node < nodes parts → node_cost parts costs box node ≡ candidate_cost parts costs node (slice_index chosen_places node)
  node_whole node within =
      let there = entry_has parts box x problem is whole agrees node within in
      least_single (has box (entry_decision node)) (candidate_cost parts costs node) (length (slice_index_or parts.candidates node [])) (slice_index chosen_places node)
      (candidate_within parts box problem is node (slice_index chosen_places node) within there) there
      (λ j remains. entry_is parts box x problem is whole agrees node j within remains)

  edges_whole : must_places parts box ≡ edges_in parts x
  edges_whole = sym (edges_present parts x ∙ filter_on (λ e. says_present x (edge_decision parts e)) (must_stand parts box) (places parts) (present_must parts box x problem is whole agrees))

  -- it costs what the analysis costs
  pub cost_whole : length chosen_places ≡ length parts.candidates → least_cost parts costs box ≡ total_cost costs (entries_at parts.candidates chosen_places) (edges_in parts x)
  cost_whole long =
      let each = problem.candidates_each in
      let here = below_same (node_cost parts costs box) (λ v. candidate_cost parts costs v (slice_index chosen_places v)) (nodes parts) node_whole in
      let entries = entries_sum (λ entry. entry_cost costs entry.0) parts.candidates chosen_places long in
      ap₂ (λ a b. a + b) (here ∙ ap (sum_below (λ v. candidate_cost parts costs v (slice_index chosen_places v))) (omega (arith, each)) ∙ sym entries) (ap (sum_by (edge_cost costs)) edges_whole)

  -- it takes no edge
  pub place_whole : (bound d v : ℕ) → Has box d v → BoundPlace parts costs bound box d v → ⊥
  place_whole bound d v remains rule =
      let k : ℕ = edge_decision parts rule.place in
      not_both parts box x problem is whole agrees rule.place rule.is (subst (λ i. Has box k i) rule.says.1 (subst (λ i. Has box i v) rule.says.0 remains)) rule.free

-- The nodes to which paths lead from a node, one way, found by a walk from node to node.
use Rattle.std.proofs.Common.{◌≡◌, ◌↔◌, ℕ, ◌+◌, ◌-◌, ◌<◌, ◌≤◌, IsTrue, inl, inr, Bool, true, false, ◌||◌, List, [], Contains, length, refl, sym, ◌∙◌, ap, subst, arith}
use Rattle.std.specs.Prelude.{not, ◌&&◌, ◌==◌, ◌⊎◌}
use Rattle.std.specs.List.{range_with_len}
use Rattle.std.proofs.lemmas.Bool.{and_from, and_parts, cases_Bool, eq-eqb, eqb-true, false≢true, not-true, not_from_false, or_cases}
use Rattle.std.proofs.lemmas.List.FromFn.{length-range_with_len, get_or-range_with_len}
use Rattle.xdg_facts.proofs.Truths.{or_here, either_true}
use Rattle.xdg_nodeset.specs.Nodes as nodesets
use Rattle.xdg_problem.specs.declared.analysis.Edge.{Edge}
use Rattle.xdg_problem.specs.declared.parts.Parts.{Parts}
use Rattle.xdg_problem.specs.Boxes.{IsBox}
use Rattle.xdg_problem.specs.Paths.{Above, IsDaughter}
use Rattle.xdg_problem.specs.Places.{nodes}
use Rattle.xdg_problem.specs.Vectors.{shape}
use Rattle.xdg_facts.proofs.Contained.{any_of}
use Rattle.xdg_facts.proofs.Keeping.{strictly_length}
use Rattle.xdg_problem.proofs.PlaceOrder.{is_place}
use Rattle.xdg_problem.proofs.Walks.{above_in, above_trans, closed_above, daughter_above}
use Rattle.xdg_graph.specs.declared.which.Which.{Which}
use Rattle.xdg_graph.specs.Edges.{edges_of}
use Rattle.xdg_graph.proofs.Edges.{which_exact}
use Rattle.xdg_formula_value.specs.Lost.{Reaches}
use Rattle.xdg_formula_value.specs.Pairs.{Along}
use Rattle.xdg_formula_value.specs.declared.way.Way.{Way}
use Rattle.xdg_formula_value.specs.declared.way.Way.TheVariants as ways
use Rattle.xdg_facts.specs.Rises.{has, numbers_below}
use Rattle.xdg_facts.proofs.Rising.{few_of}

-- ---- the nodes next to a node

-- a set has those that something relates to a node, one way
abbrev pub IsNext : Way → (ℕ → ℕ → Type 0) → ℕ → List ℕ → Type 0
IsNext way R node set = (x : ℕ) → IsTrue (has set x) ↔ Along way R node x

module _ (which : Which) (parts : Parts) (box : List (List Bool)) (dim : ℕ) (is_box : IsBox (shape parts) box) where
  abbrev edges : List Edge
  edges = edges_of which parts box dim

  from_within : (u v : ℕ) → IsDaughter edges u v → u < nodes parts
  from_within u v (j, e, within, at, (m, d)) = (let l = (is_place parts e ((which_exact which parts box dim e is_box).0 (j, within, at)).0.0).mother in omega (arith, l, m))

  to_within : (u v : ℕ) → IsDaughter edges u v → v < nodes parts
  to_within u v (j, e, within, at, (m, d)) = (let l = (is_place parts e ((which_exact which parts box dim e is_box).0 (j, within, at)).0.0).daughter in omega (arith, l, d))

  none_beyond : (way : Way) (node x : ℕ) → nodes parts ≤ node → Along way (IsDaughter edges) node x → ⊥
  none_beyond ways.Down node x past joined = (let l = from_within node x joined in omega (arith, l, past))
  none_beyond ways.Up node x past joined = (let l = to_within x node joined in omega (arith, l, past))

  -- a node that the sentence has not
  pub next_beyond : (way : Way) (node : ℕ) (set : List ℕ) → nodes parts ≤ node → set ≡ [] → IsNext way (IsDaughter edges) node set
  next_beyond way node set past empty x = (λ there. absurd (false≢true (subst (λ s. has s x ≡ true) empty there)), λ joined. absurd (none_beyond way node x past joined))

-- ---- a walk

module _ (edges : List Edge) where
  edge_daughter : (e : Edge) → Contains edges e → IsDaughter edges e.mother.0 e.daughter.0
  edge_daughter e is = any_of (λ f. (f.mother.0 ≡ e.mother.0) × (f.daughter.0 ≡ e.daughter.0)) edges e is (refl, refl)

  next_leads : (way : Way) (u v : ℕ) → Along way (IsDaughter edges) u v → Along way (Above edges) u v
  next_leads ways.Down u v joined = daughter_above edges u v joined
  next_leads ways.Up u v joined = daughter_above edges v u joined

  leads_on : (way : Way) (u v w : ℕ) → Along way (Above edges) u v → Along way (Above edges) v w → Along way (Above edges) u w
  leads_on ways.Down u v w front back = above_trans edges u v w front back
  leads_on ways.Up u v w front back = above_trans edges w v u back front

-- Paths lead to the nodes that were reached; what is next to the node is reached, and so is what is next to those that were taken.
pub record Walks (way : Way) (edges : List Edge) (node : ℕ) (reached taken : List ℕ) : Type 0 where
  pub sound : (x : ℕ) → has reached x ≡ true → Along way (Above edges) node x
  pub start : (x : ℕ) → Along way (IsDaughter edges) node x → has reached x ≡ true
  pub closed : (x y : ℕ) → has taken x ≡ true → Along way (IsDaughter edges) x y → has reached y ≡ true

module _ (way : Way) (edges : List Edge) (node : ℕ) where
  pub walk_start : (reached taken : List ℕ) → IsNext way (IsDaughter edges) node reached → taken ≡ [] → Walks way edges node reached taken
  walk_start reached taken next empty = record {
    sound = λ x there. next_leads edges way node x ((next x).0 there);
    start = λ x joined. (next x).1 joined;
    closed = λ x y there. absurd (false≢true (subst (λ s. has s x ≡ true) empty there));
  }

  pub walk_on : (reached taken left more_taken next all : List ℕ) (at : ℕ) → Walks way edges node reached taken → ((x : ℕ) → has left x ≡ (has reached x && not (has taken x))) → has left at ≡ true
      → ((x : ℕ) → has more_taken x ≡ ((x == at) || has taken x)) → IsNext way (IsDaughter edges) at next → ((x : ℕ) → has all x ≡ (has reached x || has next x)) → Walks way edges node all more_taken
  walk_on reached taken left more_taken next all at walks members there takes is_next both = record {
    sound = λ x is. elim (or_cases (has reached x) (has next x) (sym (both x) ∙ is)) [
      | inl before ↦ walks.sound x before
      | inr new ↦ leads_on edges way node at x (walks.sound at (and_parts (has reached at) (not (has taken at)) (sym (members at) ∙ there)).0) (next_leads edges way at x ((is_next x).0 new))
    ];
    start = λ x joined. both x ∙ or_here (has reached x) (has next x) (walks.start x joined);
    closed = λ x y is joined. both y ∙ (elim (or_cases (x == at) (has taken x) (sym (takes x) ∙ is)) [
      | inl here ↦ either_true (has reached y) (has next y) ((is_next y).1 (subst (λ k. Along way (IsDaughter edges) k y) (eqb-true x at here) joined))
      | inr before ↦ or_here (has reached y) (has next y) (walks.closed x y before joined)
    ]);
  }

-- the walk is at its end where each node that was reached was taken
module _ (edges : List Edge) (node : ℕ) (reached : List ℕ) where
  all_along : (way : Way) → ((x : ℕ) → Along way (IsDaughter edges) node x → has reached x ≡ true) → ((x y : ℕ) → has reached x ≡ true → Along way (IsDaughter edges) x y → has reached y ≡ true) → (x : ℕ) → Along way (Above edges) node x → has reached x ≡ true
  all_along ways.Down start closed x path = closed_above edges node x (λ y. has reached y ≡ true) (λ e is from. elim from [
    | inl first ↦ start e.daughter.0 (subst (λ k. IsDaughter edges k e.daughter.0) first (edge_daughter edges e is))
    | inr later ↦ closed e.mother.0 e.daughter.0 later (edge_daughter edges e is)
  ]) path
  all_along ways.Up start closed x path =
      let here : (e : Edge) → Contains edges e → (e.daughter.0 ≡ node) ⊎ (has reached e.daughter.0 ≡ true) → has reached e.mother.0 ≡ true = λ e is at. elim at [
        | inl end ↦ start e.mother.0 (subst (IsDaughter edges e.mother.0) end (edge_daughter edges e is))
        | inr later ↦ closed e.daughter.0 e.mother.0 later (edge_daughter edges e is)
      ] in
      above_in (λ u v. (v ≡ node) ⊎ (has reached v ≡ true) → has reached u ≡ true) edges x node here (λ e is before at. before (inr (here e is at))) path (inl refl)

pub walk_end : (way : Way) (edges : List Edge) (node : ℕ) (reached taken left : List ℕ) → Walks way edges node reached taken → ((x : ℕ) → has left x ≡ (has reached x && not (has taken x))) → left ≡ []
    → (x : ℕ) → (has reached x ≡ true) ↔ Along way (Above edges) node x
walk_end way edges node reached taken left walks members empty x = (
  walks.sound x,
  all_along edges node reached way walks.start (λ y z there joined. walks.closed y z (was_taken y there) joined) x,
) where
  was_taken : (y : ℕ) → has reached y ≡ true → has taken y ≡ true
  was_taken y there = elim (cases_Bool (has taken y)) [
    | inl is ↦ is
    | inr not_yet ↦ absurd (false≢true (ap (λ s. has s y) (sym empty) ∙ members y ∙ and_from (has reached y) (not (has taken y)) there (not_from_false (has taken y) not_yet)))
  ]

-- ---- it ends

among : (n : ℕ) → n < 128 → Contains (range_with_len 0 128) n
among n l = (n, omega (arith, l, length-range_with_len 0 128), (let at = get_or-range_with_len 0 128 n n l in omega (arith, at)))

fewer_left : (taken more : List ℕ) (n : ℕ) → ((m : ℕ) → has more m ≡ ((m == n) || has taken m)) → n < 128 → has taken n ≡ false → length (nodesets.nodes (has taken)) + 1 ≤ length (nodesets.nodes (has more))
unfolding numbers_below
fewer_left taken more n members l off = strictly_length (has taken) (has more) (range_with_len 0 128) (λ m is there. members m ∙ either_true (m == n) (has taken m) there) n (among n l) off (members n ∙ or_here (n == n) (has taken n) (eq-eqb n n refl))

pub walk_ends : (reached taken left more : List ℕ) (n : ℕ) → ((x : ℕ) → has left x ≡ (has reached x && not (has taken x))) → has left n ≡ true → ((m : ℕ) → has more m ≡ ((m == n) || has taken m)) → n < 128
    → 128 - length (nodesets.nodes (has more)) < 128 - length (nodesets.nodes (has taken))
walk_ends reached taken left more n members there takes l =
    let off = not-true (has taken n) (and_parts (has reached n) (not (has taken n)) (sym (members n) ∙ there)).1 in
    let less = fewer_left taken more n takes l off in
    let most = few_of 128 (has more) in
    omega (arith, less, most)

-- ---- with the node itself

pub reach_has : (way : Way) (edges : List Edge) (node : ℕ) (reached set : List ℕ) → ((x : ℕ) → (has reached x ≡ true) ↔ Along way (Above edges) node x) → ((x : ℕ) → has set x ≡ ((x == node) || has reached x)) → (x : ℕ)
    → Along way (Reaches edges) node x → has set x ≡ true
reach_has ways.Down es node reached set exact members x leads = members x ∙ (elim leads [
  | inl same ↦ or_here (x == node) (has reached x) (eq-eqb x node (sym same))
  | inr path ↦ either_true (x == node) (has reached x) ((exact x).1 path)
])
reach_has ways.Up es node reached set exact members x leads = members x ∙ (elim leads [
  | inl same ↦ or_here (x == node) (has reached x) (eq-eqb x node same)
  | inr path ↦ either_true (x == node) (has reached x) ((exact x).1 path)
])

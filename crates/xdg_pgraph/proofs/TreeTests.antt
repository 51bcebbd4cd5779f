-- Where the rules of a tree or of a dag take nothing that remains no decided test of it fails.
use Rattle.std.proofs.Common.{◌≡◌, ◌≢◌, ℕ, ◌<◌, ◌≤◌, ◌⊎◌, ◌&&◌, inl, inr, Bool, true, List, [], ◌∷◌, length, refl, sym, ◌∙◌, subst, arith}
use Rattle.std.specs.Prelude.{All, Contains, filter, nat_le, ◌==◌}
use Rattle.std.proofs.lemmas.Bool.{and_parts, cases_eq, cases_lt, eqb-true, false_from_ne_true}
use Rattle.std.proofs.lemmas.List.{nil_from_length}
use Rattle.std.proofs.lemmas.List.Sums.{length-filter}
use Rattle.std.proofs.lemmas.List.Elements.{All-contains, All-head, All-tail, All-weaker}
use Rattle.xdg_problem.specs.declared.analysis.Edge.{Edge}
use Rattle.xdg_problem.specs.declared.parts.Group.{Group}
use Rattle.xdg_problem.specs.declared.parts.Parts.{Parts}
use Rattle.xdg_problem.specs.Analyses.{Before}
use Rattle.xdg_problem.specs.Arguments.{first_dim}
use Rattle.xdg_problem.specs.Boxes.{Has, edge_decision}
use Rattle.xdg_problem.specs.Paths.{Above, Leads, edges_joining, edges_on, roots}
use Rattle.xdg_problem.specs.Places.{nodes, places}
use Rattle.xdg_problem.specs.Tests.{Test, looks_at, one_label, one_mother, no_cycle, one_root}
use Rattle.xdg_problem.proofs.Edges.{before_differ}
use Rattle.xdg_facts.proofs.Filters.{filter_contained}
use Rattle.xdg_facts.proofs.InOrder.{Ordered, ordered_filter}
use Rattle.xdg_facts.proofs.Contained.{contains_head}
use Rattle.xdg_problem.proofs.PlaceOrder.{is_place, places_ordered}
use Rattle.xdg_propcore.proofs.SeenEdges.{decided_must, seen}
use Rattle.xdg_rules.specs.Rules.{has, IsDecided, OneLabel, OneMother, NoCycle, HasNoRoot, HasTwoRoots, must_edges}
use Rattle.xdg_rules.proofs.Among.{roots_length}
use Rattle.xdg_rules.proofs.Shrinking.{must_of, must_is}
use Rattle.xdg_facts.proofs.Lists.{contains_more}
use Rattle.xdg_pgraph.specs.Seeking.{FromTo, ToNode}
use Rattle.xdg_pgraph.proofs.Beside.{Beside, beside_label, beside_mother}

-- two different edges, or at most one
pub two_of : (xs : List Edge) → Ordered Before xs → (length xs ≤ 1) ⊎ ((a : Edge) × (b : Edge) × Contains xs a × Contains xs b × (a ≢ b))
two_of [] ordered = inl (omega arith)
two_of (a ∷ []) ordered = inl (omega arith)
two_of (a ∷ b ∷ xs) ordered = inr (a, b, contains_head a (b ∷ xs), contains_more a (b ∷ xs) b (contains_head b xs), before_differ a b ordered.0.0)

module _ (parts : Parts) (group : Group) (box : List (List Bool)) where
  abbrev dim : ℕ
  dim = first_dim group

  abbrev must : List Edge
  must = must_edges parts box dim

  -- the edges that are present at the places of a test
  abbrev here : Test → List Edge
  here = seen parts group box

  abbrev AreDecided : Test → Type 0
  AreDecided test = All (λ e. looks_at group test e ≡ true → IsDecided box (edge_decision parts e)) (places parts)

  seen_parts : (test : Test) (e : Edge) → Contains (here test) e
      → Contains (places parts) e × (looks_at group test e ≡ true) × Has box (edge_decision parts e) 0
  seen_parts test e c =
      let both = filter_contained (λ f. looks_at group test f && has box (edge_decision parts f) 0) (places parts) e c in
      let two = and_parts (looks_at group test e) (has box (edge_decision parts e) 0) both.1 in
      (both.0, two.0, two.1)

  -- what is present and decided must be
  seen_must : (test : Test) → AreDecided test → (e : Edge) → Contains (here test) e → e.dim.0 ≡ dim → Contains must e
  seen_must test decided e c on =
      let s = seen_parts test e c in
      let one = All-contains (λ f. looks_at group test f ≡ true → IsDecided box (edge_decision parts f)) (places parts) e decided s.0 s.1 in
      must_of parts box dim e (record {
        place = s.0;
        dim_is = on;
        present = s.2;
        not_absent = false_from_ne_true (has box (edge_decision parts e) 1) (decided_must parts box e one s.2);
      })

  -- where of two edges that a test sees, and of which something holds, the one isn't to stand beside the other
  few_of : (test : Test) (edges : List Edge) (Q : Edge → Type 0) → AreDecided test → Ordered Before edges → ((e : Edge) → Contains edges e → Contains (here test) e × (e.dim.0 ≡ dim) × Q e)
      → ((d x : ℕ) → Has box d x → Beside Q parts box d x dim → ⊥) → length edges ≤ 1
  few_of test edges Q decided ordered each none = elim (two_of edges ordered) [
    | inl few ↦ few
    | inr (x, y, c, d, differ) ↦ absurd (
        let a = each x c in
        let b = each y d in
        let s = seen_parts test x a.0 in
        none (edge_decision parts x) 0 s.2 (record { place = x; is = (s.0, a.1); from = a.2; other = y; among = seen_must test decided y b.0 b.1; differs = differ; joins = b.2; says = (refl, refl) }))
  ]

  here_ordered : (test : Test) → Ordered Before (here test)
  here_ordered test = ordered_filter Before (λ e. looks_at group test e && has box (edge_decision parts e) 0) (places parts) (places_ordered parts)

  pub one_mother_passes : (v k : ℕ) → AreDecided (one_mother v k) → ((d x : ℕ) → Has box d x → OneMother parts group box d x → ⊥) → length (here (one_mother v k)) ≤ 1
  one_mother_passes v k decided closed = few_of (one_mother v k) (here (one_mother v k)) (ToNode v) decided (here_ordered (one_mother v k))
      (λ e c.
      let x = and_parts ((e.dim.0 == dim) && (e.daughter.0 == v)) (nat_le e.mother.0 k) (seen_parts (one_mother v k) e c).1 in
      let y = and_parts (e.dim.0 == dim) (e.daughter.0 == v) x.0 in
      (c, eqb-true e.dim.0 dim y.0, eqb-true e.daughter.0 v y.1))
      (λ d x h beside. closed d x h (beside_mother parts group box d x dim refl v beside))

  pub one_label_passes : (u v : ℕ) → AreDecided (one_label u v) → ((d x : ℕ) → Has box d x → OneLabel parts group box d x → ⊥) → edges_joining (edges_on dim (here (one_label u v))) u v ≤ 1
  one_label_passes u v decided closed =
      let joins : Edge → Bool = λ e. (e.mother.0 == u) && (e.daughter.0 == v) in
      let on_dim : Edge → Bool = λ e. e.dim.0 == dim in
      let few = few_of (one_label u v) (filter joins (edges_on dim (here (one_label u v)))) (FromTo u v) decided
      (ordered_filter Before joins (edges_on dim (here (one_label u v))) (ordered_filter Before on_dim (here (one_label u v)) (here_ordered (one_label u v))))
      (λ e c.
      let x = filter_contained joins (edges_on dim (here (one_label u v))) e c in
      let y = filter_contained on_dim (here (one_label u v)) e x.0 in
      let z = and_parts (e.mother.0 == u) (e.daughter.0 == v) x.1 in
      (y.0, eqb-true e.dim.0 dim y.1, (eqb-true e.mother.0 u z.0, eqb-true e.daughter.0 v z.1)))
      (λ d x h beside. closed d x h (beside_label parts group box d x dim refl u v beside).rule) in
      let same = length-filter joins (edges_on dim (here (one_label u v))) in
      omega (arith, few, same)

  no_way : (edges path : List Edge) (v : ℕ) → ((e : Edge) → Contains edges e → Contains must e) → ((d x : ℕ) → Has box d x → NoCycle parts group box d x → ⊥)
      → 0 < length path → All (Contains edges) path → Leads v path v → ⊥
  no_way edges [] v all closed some along leads = omega (arith, some)
  no_way edges (e ∷ []) v all closed some along leads =
      let m = must_is parts box dim e (all e (All-head (Contains edges) e [] along)) in
      (is_place parts e m.place).differ (leads.0 ∙ sym leads.1)
  no_way edges (e ∷ f ∷ path) v all closed some along leads =
      let m = must_is parts box dim e (all e (All-head (Contains edges) e (f ∷ path) along)) in
      closed (edge_decision parts e) 0 m.present (record {
        place = e;
        is = (m.place, m.dim_is);
        says = (refl, refl);
        back =
            record {
              path = f ∷ path;
              some = omega arith;
              along = All-weaker (Contains edges) (Contains must) all (f ∷ path) (All-tail (Contains edges) e (f ∷ path) along);
              leads = subst (λ k. Leads e.daughter.0 (f ∷ path) k) (sym leads.0) leads.1;
            };
      })

  pub no_cycle_passes : (k : ℕ) → AreDecided (no_cycle k) → ((d x : ℕ) → Has box d x → NoCycle parts group box d x → ⊥) → (v : ℕ)
      → Above (here (no_cycle k)) v v → ⊥
  no_cycle_passes k decided closed v above = no_way (here (no_cycle k)) above.path v
      (λ e c. seen_must (no_cycle k) decided e c (eqb-true e.dim.0 dim (and_parts (e.dim.0 == dim) (nat_le e.mother.0 k) (seen_parts (no_cycle k) e c).1).0))
      closed above.some above.along above.leads

  pub one_root_passes : AreDecided one_root → (HasNoRoot parts group box → ⊥) → (HasTwoRoots parts group box → ⊥) → length (roots (nodes parts) (here one_root)) ≡ 1
  one_root_passes decided some few =
      let least = roots_length (here one_root) must (λ e c. seen_must one_root decided e c (eqb-true e.dim.0 dim (seen_parts one_root e c).1)) (nodes parts) in
      elim (cases_eq (length (roots (nodes parts) (here one_root))) 0) [
        | inl none ↦ absurd (some (nil_from_length (roots (nodes parts) must) (omega (arith, least, none))))
        | inr more ↦ elim (cases_lt (length (roots (nodes parts) (here one_root))) 2) [ inl one ↦ omega (arith, more, one) | inr two ↦ absurd (few two) ]
      ]

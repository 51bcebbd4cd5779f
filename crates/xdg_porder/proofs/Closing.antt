-- Where nothing is left to take the box is closed: no rule takes a value that remains, and no test is decided and fails.
use Rattle.std.proofs.Common.{◌≡◌, ℕ, ◌<◌, ◌↔◌, ◌&&◌, inl, inr, Bool, true, List, [], get_or, refl, sym, ap, ◌∙◌, arith, subst}
use Rattle.std.specs.Prelude.{Contains, filter}
use Rattle.std.proofs.lemmas.Bool.{cases_Bool, false≢true}
use Rattle.xdg_nodeset.specs.Tables.{InTable}
use Rattle.xdg_problem.specs.declared.analysis.Edge.{Edge}
use Rattle.xdg_problem.specs.declared.parts.Group.{Group}
use Rattle.xdg_problem.specs.declared.parts.Parts.{Parts}
use Rattle.xdg_problem.specs.declared.parts.Principle.TheVariants as principles
use Rattle.xdg_problem.specs.Analyses.{IsPlace}
use Rattle.xdg_problem.specs.Arguments.{first_dim, order_of, truth_of, label_count}
use Rattle.xdg_problem.specs.Asking.{IsBetween}
use Rattle.xdg_problem.specs.Boxes.{Has, IsBox, May, Must, edge_decision}
use Rattle.xdg_problem.specs.Paths.{Above, IsDaughter, edges_on}
use Rattle.xdg_problem.specs.Places.{edge, nodes, places}
use Rattle.xdg_problem.specs.Tests.{Test, IsTestOf, looks_at, ordered_daughters, ordered_yields, projective}
use Rattle.xdg_problem.specs.Vectors.{shape}
use Rattle.xdg_problem.proofs.PlaceOrder.{is_place}
use Rattle.xdg_rules.specs.Rules.{may_edges, must_edges, ComesBefore, FailsTest, IsClosedFor, IsPlaceOn, SaysPresent, TakesBy, TestDecided, TestPasses, has as flag}
use Rattle.xdg_rules.proofs.Shrinking.{may_exact, must_exact}
use Rattle.xdg_graph.specs.Edges.{edge_labels}
use Rattle.xdg_graph.proofs.Labelled.{label_below}
use Rattle.xdg_porder.specs.Across.{AreNodesDone}
use Rattle.xdg_porder.specs.Items.{AreMothersDone, IsNodeDone, IsPairDone, IsWrong, MayFollow, MayStand, MustFollow, MustStand}
use Rattle.xdg_porder.proofs.Pairing.{head_wrong, pairs_before, wrong_back}
use Rattle.xdg_propcore.proofs.ByRules.{NoRule, PassesAll, closed_by}
use Rattle.xdg_problem.proofs.EachTest.{each_tested}
use Rattle.xdg_propcore.proofs.SeenEdges.{all_seen}
use Rattle.xdg_porder.proofs.Testing.{all_pairs, daughters_pass}
use Rattle.xdg_facts.specs.Rises.{has}

module _ (parts : Parts) (group : Group) (box : List (List Bool)) (is : IsBox (shape parts) box) where
  -- a place of the dimension whose edge may be
  follows : (e : Edge) → IsPlaceOn parts (first_dim group) e → May parts box e → MayFollow parts group box e.mother.0 e.label.0 e.daughter.0
  follows e on here = subst (λ i. IsPlace parts (edge i e.mother.0 e.label.0 e.daughter.0) × May parts box (edge i e.mother.0 e.label.0 e.daughter.0)) on.1 (is_place parts e on.0, here)

  must_follow : (e : Edge) → Contains (must_edges parts box (first_dim group)) e → MustFollow parts group box e.mother.0 e.label.0 e.daughter.0
  must_follow e c =
      let both = (must_exact parts box (first_dim group) e is).0 c in
      subst (λ i. IsPlace parts (edge i e.mother.0 e.label.0 e.daughter.0) × Must parts box (edge i e.mother.0 e.label.0 e.daughter.0)) both.0.1 (is_place parts e both.0.0, both.1)

  said : (e : Edge) (d v : ℕ) → SaysPresent parts e d v → Has box d v → May parts box e
  said e d v says remains = subst (λ i. Has box i 0) says.0 (subst (λ x. Has box d x) says.1 remains)

  -- ---- order

  pair_done : (u l m : ℕ) → IsNodeDone parts group u box → ComesBefore (order_of group) l m → IsPairDone parts group u l m box
  pair_done u l m done comes = pairs_before (λ a b. IsPairDone parts group u a b box) (order_of group) l m (all_pairs parts group box is u done) comes

  -- no item stands on the wrong side of one that must be
  wrong_done : AreMothersDone parts group (nodes parts) box → (u l m v w : ℕ) → u < nodes parts → MayStand parts group box u l v → MustStand parts group box u m w → IsWrong group l m v w → ⊥
  wrong_done done u l m v w within may must (inl after) = (pair_done u m l (done u within) after.0).0 v w may must after.1
  wrong_done done u l m v w within may must (inr before) = (pair_done u l m (done u within) before.0).1 v w may must before.1

  no_rule : AreMothersDone parts group (nodes parts) box → NoRule parts group box principles.Order
  no_rule done d v remains (inl rule) =
      let place = rule.place in
      let must : MustFollow parts group box place.mother.0 rule.other.label.0 rule.other.daughter.0 = subst (λ k. MustFollow parts group box k rule.other.label.0 rule.other.daughter.0)
      (sym rule.mother) (must_follow rule.other rule.must) in
      wrong_done done place.mother.0 place.label.0 rule.other.label.0 place.daughter.0 rule.other.daughter.0 (is_place parts place rule.is.0).mother (inr (follows place rule.is (said place d v rule.says remains))) (inr must) rule.wrong
  no_rule done d v remains (inr (inl rule)) =
      let place = rule.place in
      wrong_done done place.mother.0 place.label.0 rule.own place.daughter.0 place.mother.0 (is_place parts place rule.is.0).mother (inr (follows place rule.is (said place d v rule.says remains))) (inl (refl, (rule.remains, rule.only)))
      (wrong_back group rule.own place.label.0 place.mother.0 place.daughter.0 (head_wrong group rule.own place rule.offends))
  no_rule done d v remains (inr (inr rule)) =
      let place = rule.place in
      let must = must_follow place rule.must in
      wrong_done done place.mother.0 v place.label.0 place.mother.0 place.daughter.0 must.0.mother (inl (refl, subst (λ i. Has box i v) rule.is remains)) (inr must) (head_wrong group v place rule.offends)

  order_passes : AreMothersDone parts group (nodes parts) box → (truth_of group.truths 0 ≡ true → FailsTest parts group box → ⊥) → group.principle ≡ principles.Order → FailsTest parts group box → ⊥
  order_passes done along order failing = fine failing.test (subst (λ p. IsTestOf p group.truths (nodes parts) (label_count parts (first_dim group)) failing.test) order failing.is) failing.decided failing.fails
    where
      fine : (test : Test) → IsTestOf principles.Order group.truths (nodes parts) (label_count parts (first_dim group)) test → TestDecided parts group box test → (TestPasses parts group box test → ⊥) → ⊥
      fine (ordered_daughters u) test_is decided fails = fails (daughters_pass parts group box is u test_is.0 decided (done u test_is.1))
      fine (ordered_yields u) test_is decided fails = along test_is.0 failing
      fine test test_is decided fails = absurd test_is

  pub order_closed : group.principle ≡ principles.Order → AreMothersDone parts group (nodes parts) box → (truth_of group.truths 0 ≡ true → FailsTest parts group box → ⊥) → IsClosedFor parts group box
  order_closed order done along d v remains (inl failing) = order_passes done along order failing
  order_closed order done along d v remains (inr rule) = no_rule done d v remains (subst (λ p. TakesBy p parts group box d v) order rule)

  -- ---- projectivity

  -- each node across which an edge may lead is below its mother
  abbrev pub AllReached : Type 0
  AllReached = (e : Edge) → IsPlaceOn parts (first_dim group) e → May parts box e → (w : ℕ) → IsBetween e.mother.0 e.daughter.0 w
      → Above (may_edges parts box (first_dim group)) e.mother.0 w

  pub all_reached : (table : List (List ℕ)) → ((a b : ℕ) → InTable table a b ↔ Above (may_edges parts box (first_dim group)) a b) → AreNodesDone parts group table (nodes parts) box → AllReached
  all_reached table exact done e on here w between = elim (cases_Bool (has (get_or table e.mother.0 []) w)) [
    | inl there ↦ (exact e.mother.0 w).0 there
    | inr out ↦ absurd (
        let place = is_place parts e on.0 in
        let below = label_below parts e place in
        let same = ap (edge_labels parts) on.1 in
        done e.mother.0 place.mother e.label.0 (omega (arith, below, same)) e.daughter.0 (follows e on here) w between (λ h. false≢true (sym out ∙ h)))
  ]

  module _ (crossed : AllReached) where
    abbrev few : ℕ → ℕ → List Edge
    few u v = edges_on (first_dim group) (filter (λ e. looks_at group (projective u v) e && flag box (edge_decision parts e) 0) (places parts))

    abbrev Asks : List Edge → ℕ → ℕ → Type 0
    Asks edges u v = (w : ℕ) → w < nodes parts → IsDaughter edges u v → IsBetween u v w → Above edges u w

    passes : (u v : ℕ) → Asks (may_edges parts box (first_dim group)) u v
    passes u v w within (k, e, l, at, (m, d)) between =
        let may = (may_exact parts box (first_dim group) e).0 (k, l, at) in
        subst (λ x. Above (may_edges parts box (first_dim group)) x w) m (crossed e may.0 may.1 w (subst (λ x. IsBetween x e.daughter.0 w) (sym m) (subst (λ x. IsBetween u x w) (sym d) between)))

    pub across_closed : group.principle ≡ principles.Projectivity → IsClosedFor parts group box
    across_closed flat = closed_by parts group box (subst (PassesAll parts group box) (sym flat) (each_tested group.truths (nodes parts) (label_count parts (first_dim group))
        (λ test. TestDecided parts group box test → TestPasses parts group box test) principles.Projectivity
        (λ u within v also decided. subst (λ es. Asks es u v) (sym (all_seen parts group box (projective u v) (first_dim group) (λ e on. on))) (passes u v))))
        (subst (NoRule parts group box) (sym flat) (λ d v remains r. r.apart (crossed r.place r.is (said r.place d v r.says remains) r.node r.between)))

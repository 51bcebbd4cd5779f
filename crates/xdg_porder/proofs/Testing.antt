-- What a test sees of a box in which all that it looks at is decided.
use Rattle.std.proofs.Common.{◌≡◌, ℕ, ◌<◌, ◌+◌, ◌↔◌, inl, inr, Bool, true, false, List, [], length, get_or, refl, sym, ap, ◌∙◌, arith, subst}
use Rattle.std.specs.Prelude.{Contains, AllPairs}
use Rattle.std.proofs.lemmas.Bool.{cases_lt, eq-eqb, eqb-true, false≢true}
use Rattle.std.proofs.lemmas.List.{get_or_default, length-map}
use Rattle.std.proofs.lemmas.List.Elements.{All-nil, All-cons, All-contains, All-contains_itself, All-weaker}
use Rattle.xdg_base.specs.declared.ids.LabelId.{LabelId}
use Rattle.xdg_nodeset.specs.Tables.{InTable}
use Rattle.xdg_problem.proofs.Walks.{closed_above}
use Rattle.xdg_problem.specs.declared.analysis.Edge.{Edge}
use Rattle.xdg_problem.specs.declared.parts.Group.{Group}
use Rattle.xdg_problem.specs.declared.parts.Parts.{Parts}
use Rattle.xdg_problem.specs.declared.parts.Principle.TheVariants as principles
use Rattle.xdg_problem.specs.Analyses.{IsPlace}
use Rattle.xdg_problem.specs.Arguments.{first_dim, order_of, truth_of, label_count}
use Rattle.xdg_problem.specs.Asking.{IsInItem}
use Rattle.xdg_problem.specs.Boxes.{Has, IsBox, May, Must, edge_decision}
use Rattle.xdg_problem.specs.Paths.{Above, IsDaughterBy, edges_on}
use Rattle.xdg_problem.specs.Places.{edge, nodes, places}
use Rattle.xdg_problem.specs.Tests.{Test, IsTest, IsTestOf, looks_at, ordered_daughters, ordered_yields}
use Rattle.xdg_problem.specs.Vectors.{shape}
use Rattle.xdg_problem.proofs.PlaceOrder.{is_place, place_is}
use Rattle.xdg_rules.specs.Rules.{may_edges, FailsTest, IsDecided, IsPlaceOn, TestDecided, TestPasses, attr_of_node, value_in}
use Rattle.xdg_facts.proofs.Numbers.{below_two}
use Rattle.xdg_problem.proofs.EachTest.{each_tested}
use Rattle.xdg_rules.proofs.Shrinking.{may_exact}
use Rattle.xdg_rules.proofs.Sizes.{edge_some, edge_values}
use Rattle.xdg_propcore.proofs.SeenEdges.{all_seen, decided_must, only_value, seen, seen_at, value_has}
use Rattle.xdg_graph.specs.declared.which.Which.TheVariants as whichs
use Rattle.xdg_graph.specs.Edges.{edge_labels}
use Rattle.xdg_graph.proofs.Edges.{stands_by}
use Rattle.xdg_graph.proofs.Labelled.{label_below}
use Rattle.xdg_porder.specs.Items.{IsNodeDone, IsPairDone, MayFollow, MayStand, MustFollow, MustStand, edge_to, label_at}
use Rattle.xdg_porder.specs.Yields.{AreSettled, IsBrokenAt, StandsBelow}

module _ (parts : Parts) (group : Group) (box : List (List Bool)) (is : IsBox (shape parts) box) where
  abbrev one : ℕ
  one = first_dim group

  abbrev may : List Edge
  may = may_edges parts box one

  -- those of the dimension that a test looks at
  abbrev few : Test → List Edge
  few test = edges_on one (seen parts group box test)

  stands : (test : Test) (u l v : ℕ) → TestDecided parts group box test → IsDaughterBy (few test) u l v → MayFollow parts group box u l v × MustFollow parts group box u l v
  stands test u l v decided follows =
      let e : Edge = edge one u l v in
      let (on, looks, here) = seen_at parts group box test one u l v follows in
      let must = decided_must parts box e (All-contains (λ f. looks_at group test f ≡ true → IsDecided box (edge_decision parts f)) (places parts) e decided.edges on.0 looks) here in
      ((is_place parts e on.0, here), (is_place parts e on.0, must))

  -- ---- own labels

  abbrev own_of : ℕ → ℕ
  own_of u = attr_of_node parts group 0 u

  -- ---- an order

  -- what the test asks, of some edges
  abbrev Orders : List Edge → ℕ → Type 0
  Orders edges u = (x y : ℕ) → x < nodes parts → y < nodes parts → AllPairs (λ earlier later. IsInItem edges (truth_of group.truths 0 ≡ true) (value_in box (own_of u)) u earlier x → IsInItem edges (truth_of group.truths 0 ≡ true) (value_in box (own_of u)) u later y → x < y) (order_of group)

  pub all_pairs : (u : ℕ) → IsNodeDone parts group u box → AllPairs (λ l m. IsPairDone parts group u l m box) (order_of group)
  all_pairs u done i j d less within =
      let c = length-map group.order (λ (label : LabelId). label.0) in
      subst (λ l. IsPairDone parts group u l (get_or (order_of group) j d) box) (get_or_default (order_of group) i 0 d (omega (arith, less, within)))
      (subst (λ m. IsPairDone parts group u (label_at group i) m box) (get_or_default (order_of group) j 0 d within)
      (done i j less (omega (arith, within, c))))

  pub daughters_pass : (u : ℕ) → truth_of group.truths 0 ≡ false → TestDecided parts group box (ordered_daughters u) → IsNodeDone parts group u box → TestPasses parts group box (ordered_daughters u)
  daughters_pass u plain decided done = passes
    where
      test : Test
      test = ordered_daughters u

      own : IsDecided box (own_of u)
      own = decided.attrs 0 0 (omega arith)

      both_stand : (label x : ℕ) → IsInItem (few (ordered_daughters u)) (truth_of group.truths 0 ≡ true) (value_in box (own_of u)) u label x → MayStand parts group box u label x × MustStand parts group box u label x
      both_stand label x item = elim item [
        | inl here ↦
            let has_own = subst (Has box (own_of u)) (sym here.0) (value_has box (own_of u) own) in
            (inl (here.1, has_own), inl (here.1, (has_own, λ z there. only_value box (own_of u) own z there ∙ sym here.0)))
        | inr more ↦ elim more [
          | inl follows ↦ (let both = stands (ordered_daughters u) u label x decided follows in (inr both.0, inr both.1))
          | inr below ↦ absurd (false≢true (sym plain ∙ below.0))
        ]
      ]

      passes : Orders (few (ordered_daughters u)) u
      passes x y xl yl i j d less within first second = elim (cases_lt x y) [
        | inl left ↦ left
        | inr past ↦ absurd ((all_pairs u done i j d less within).0 y x (both_stand (get_or (order_of group) j d) y second).0 (both_stand (get_or (order_of group) i d) x first).1 past)
      ]

  -- ---- yields

  -- what holds of each decided test of yields holds of each decided test of an order along yields
  by_yields : group.principle ≡ principles.Order → truth_of group.truths 0 ≡ true → (Q : Test → Type 0) → ((u : ℕ) → u < nodes parts → TestDecided parts group box (ordered_yields u) → Q (ordered_yields u))
      → (test : Test) → IsTest parts group test → TestDecided parts group box test → Q test
  by_yields order along Q each test is = each_tested group.truths (nodes parts) (label_count parts one) (λ t. TestDecided parts group box t → Q t) principles.Order ((λ plain. absurd (false≢true (sym plain ∙ along))), (λ yields. each)) test
      (subst (λ p. IsTestOf p group.truths (nodes parts) (label_count parts one) test) order is)

  module _ (table : List (List ℕ)) (exact : (a b : ℕ) → InTable table a b ↔ Above (may_edges parts box (first_dim group)) a b) where
    -- the items of a decided node
    item_below : (u label x : ℕ) → IsDecided box (own_of u) → IsInItem may (truth_of group.truths 0 ≡ true) (value_in box (own_of u)) u label x → StandsBelow parts group table box u label x
    item_below u label x own item = elim item [
      | inl here ↦ inl (inl (here.1, subst (Has box (own_of u)) (sym here.0) (value_has box (own_of u) own)))
      | inr more ↦ elim more [
        | inl follows ↦ inl (inr ((stands_by whichs.May parts box one u label x is).0 follows))
        | inr (along, (v, follows, above)) ↦ inr (v, (stands_by whichs.May parts box one u label v is).0 follows, (exact v x).1 above)
      ]
    ]

    below_item : (u label x : ℕ) → truth_of group.truths 0 ≡ true → IsDecided box (own_of u) → StandsBelow parts group table box u label x → IsInItem may (truth_of group.truths 0 ≡ true) (value_in box (own_of u)) u label x
    below_item u label x along own below = elim below [
      | inl item ↦ elim item [
        | inl here ↦ inl (only_value box (own_of u) own label here.1, here.0)
        | inr follows ↦ inr (inl ((stands_by whichs.May parts box one u label x is).1 follows))
      ]
      | inr (v, follows, there) ↦ inr (inr (along, (v, (stands_by whichs.May parts box one u label v is).1 follows, (exact v x).0 there)))
    ]

    -- they are nodes of the sentence
    above_within : (v x : ℕ) → Above may v x → x < nodes parts
    above_within v x above = closed_above may v x (λ z. z < nodes parts) (λ e c from. (is_place parts e ((may_exact parts box one e).0 c).0.0).daughter) above

    below_within : (u label x : ℕ) → u < nodes parts → StandsBelow parts group table box u label x → x < nodes parts
    below_within u label x within below = elim below [
      | inl item ↦ elim item [
        | inl here ↦ (let e = here.0 in omega (arith, e, within))
        | inr follows ↦ follows.0.daughter
      ]
      | inr (v, follows, there) ↦ above_within v x ((exact v x).0 there)
    ]

    -- a test of yields sees all edges
    yields_seen : (u : ℕ) → few (ordered_yields u) ≡ may
    yields_seen u = all_seen parts group box (ordered_yields u) one (λ e on. on)

    -- in a box whose edges are settled each of them is decided
    settled_decided : AreSettled parts group box → (e : Edge) → IsPlaceOn parts one e → IsDecided box (edge_decision parts e)
    settled_decided settled e on =
        let place = is_place parts e on.0 in
        let below = label_below parts e place in
        let same = ap (edge_labels parts) on.1 in
        let must : May parts box e → Must parts box e = λ here. subst (λ i. Must parts box (edge i e.mother.0 e.label.0 e.daughter.0)) (sym on.1) (settled e.mother.0 place.mother e.label.0 (omega (arith, below, same)) e.daughter.0
        (subst (λ i. IsPlace parts (edge i e.mother.0 e.label.0 e.daughter.0)) on.1 place)
        (subst (λ i. May parts box (edge i e.mother.0 e.label.0 e.daughter.0)) on.1 here)) in
        let two = λ (x : ℕ) (h : Has box (edge_decision parts e) x). below_two x (edge_values parts box is e on.0 x h) in
        elim (edge_some parts box is e on.0) [
          | inl here ↦ (0, here, λ x h. elim (two x h) [ inl zero_is ↦ zero_is | inr one_is ↦ absurd (must here (subst (Has box (edge_decision parts e)) one_is h)) ])
          | inr there ↦ (1, there, λ x h. elim (two x h) [ inl zero_is ↦ absurd (must (subst (Has box (edge_decision parts e)) zero_is h) there) | inr one_is ↦ one_is ])
        ]

    pub broken_fails : group.principle ≡ principles.Order → truth_of group.truths 0 ≡ true → (u : ℕ) → u < nodes parts → AreSettled parts group box → IsDecided box (own_of u) × IsBrokenAt parts group table box u → FailsTest parts group box
    broken_fails order along u within settled (own, (i, j, x, y, less, jw, first, second, far)) = record {
      test = ordered_yields u;
      is = subst (λ p. IsTestOf p group.truths (nodes parts) (label_count parts one) (ordered_yields u)) (sym order) (along, within);
      decided = record {
        entry = tt;
        attrs = All-cons (λ place. IsDecided box (length parts.candidates + place)) _ [] own (All-nil (λ place. IsDecided box (length parts.candidates + place)));
        edges = All-weaker (Contains (places parts)) (λ e. looks_at group (ordered_yields u) e ≡ true → IsDecided box (edge_decision parts e)) (λ e c looks. settled_decided settled e (c, eqb-true e.dim.0 one looks)) (places parts) (All-contains_itself (places parts));
      };
      fails = λ passes.
          let orders : Orders may u = subst (λ es. Orders es u) (yields_seen u) passes in
          let c = length-map group.order (λ (label : LabelId). label.0) in
          let l = orders x y (below_within u (label_at group i) x within first) (below_within u (label_at group j) y within second) i j 0 less (omega (arith, jw, c)) (below_item u (label_at group i) x along own first) (below_item u (label_at group j) y along own second) in
          omega (arith, l, far);
    }

    pub none_fails : group.principle ≡ principles.Order → truth_of group.truths 0 ≡ true → ((u : ℕ) → u < nodes parts → IsDecided box (own_of u) × IsBrokenAt parts group table box u → ⊥) → FailsTest parts group box → ⊥
    none_fails order along none failing = by_yields order along (λ test. (TestPasses parts group box test → ⊥) → ⊥)
        (λ u within decided fails. fails (subst (λ es. Orders es u) (sym (yields_seen u)) (orders u within (decided.attrs 0 0 (omega arith))))) failing.test failing.is failing.decided failing.fails
      where
        orders : (u : ℕ) → u < nodes parts → IsDecided box (own_of u) → Orders may u
        orders u within own x y xl yl i j d less jw first second = elim (cases_lt x y) [
          | inl left ↦ left
          | inr past ↦ absurd (
              let c = length-map group.order (λ (label : LabelId). label.0) in
              let at_i = get_or_default (order_of group) i d 0 (omega (arith, less, jw)) in
              let at_j = get_or_default (order_of group) j d 0 jw in
              none u within (
                own,
                (
                  i,
                  j,
                  x,
                  y,
                  less,
                  omega (arith, jw, c),
                  subst (λ l. StandsBelow parts group table box u l x) at_i (item_below u (get_or (order_of group) i d) x own first),
                  subst (λ l. StandsBelow parts group table box u l y) at_j (item_below u (get_or (order_of group) j d) y own second),
                  past,
                ),
              ))
        ]

  -- where a test of yields fails, the edges are settled
  pub failing_settled : group.principle ≡ principles.Order → truth_of group.truths 0 ≡ true → FailsTest parts group box → AreSettled parts group box
  failing_settled order along failing = by_yields order along (λ test. AreSettled parts group box)
      (λ w within decided u ul label ll v place here. decided_must parts box (edge_to group u label v)
      (All-contains (λ e. looks_at group (ordered_yields w) e ≡ true → IsDecided box (edge_decision parts e)) (places parts) (edge_to group u label v) decided.edges
      (place_is parts (edge_to group u label v) place) (eq-eqb one one refl)) here)
      failing.test failing.is failing.decided

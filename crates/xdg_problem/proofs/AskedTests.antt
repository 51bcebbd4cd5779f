-- On a whole vector a test that asks what a condition does asks it of all edges, since it sees those that the condition reads.
use Rattle.std.proofs.Common.{◌≡◌, ℕ, ◌<◌, ◌≤◌, ◌↔◌, inl, inr, true, false, List, [], ◌∷◌, refl, sym, subst, ◌∙◌}
use Rattle.std.specs.Prelude.{filter, map, slice_index, AllPairs, ◌==◌, ◌&&◌, ◌||◌}
use Rattle.std.proofs.lemmas.Bool.{and_parts, cases_Bool, eq-eqb, false≢true}
use Rattle.xdg_problem.specs.declared.analysis.Edge.{Edge}
use Rattle.xdg_problem.specs.declared.conditions.Condition.{Condition}
use Rattle.xdg_problem.specs.declared.conditions.Condition.TheVariants as conditions
use Rattle.xdg_problem.specs.declared.parts.Group.{Group}
use Rattle.xdg_problem.specs.declared.parts.Linking.{Linking}
use Rattle.xdg_problem.specs.declared.parts.Parts.{Parts}
use Rattle.xdg_problem.specs.declared.parts.Principle.{Principle}
use Rattle.xdg_problem.specs.declared.parts.Principle.TheVariants as principles
use Rattle.xdg_problem.specs.Places.{nodes}
use Rattle.xdg_problem.specs.Paths.{edges_on, IsDaughter, IsDaughterBy, Above, AboveByLast}
use Rattle.xdg_problem.specs.Features.{set_row, map_row}
use Rattle.xdg_problem.specs.Arguments.{first_dim, second_dim, label_count, order_of, truth_of}
use Rattle.xdg_problem.specs.Asking.{first, second, third, AsksLink, AsksOf, Asks, IsBetween, IsInItem, IsLinked, attr_places}
use Rattle.xdg_problem.specs.Relations.{IsKept}
use Rattle.xdg_problem.specs.Tests.{Test, one_label, ordered_daughters, ordered_yields, projective, allowed_value, agreeing, governed, climbing, not_blocked, linked, unlinked, looks_first, looks_at}
use Rattle.xdg_problem.proofs.Looking.{any_same, count_same, on_same, placed}
use Rattle.xdg_problem.proofs.LinkTests.{linked_same, unlinked_same}
use Rattle.xdg_problem.proofs.Tuples.{tuples}
use Rattle.xdg_problem.proofs.Passing.{PassesAt}
use Rattle.xdg_problem.proofs.EachTest.{EachNode, EachPair, EachTriple}
use Rattle.xdg_facts.proofs.Truths.{and_2, either_true, or_here, and_3}
use Rattle.xdg_facts.proofs.Facts.{asked_alike}

-- what stands in an item by some edges stands in it by others
item_alike : (few many : List Edge) (yields : Type 0) (own u label z : ℕ) → (IsDaughterBy few u label z → IsDaughterBy many u label z) → (yields → few ≡ many) → IsInItem few yields own u label z → IsInItem many yields own u label z
item_alike few many yields own u label z daughter same (inl itself) = inl itself
item_alike few many yields own u label z daughter same (inr (inl by)) = inr (inl (daughter by))
item_alike few many yields own u label z daughter same (inr (inr below)) = subst (λ es. IsInItem es yields own u label z) (same below.0) (inr (inr below))

module _ (parts : Parts) (group : Group) (candidates attrs : List ℕ) (edges : List Edge) where
  abbrev n : ℕ
  n = nodes parts

  abbrev one : ℕ
  one = first_dim group

  abbrev two : ℕ
  two = second_dim group

  abbrev labels : ℕ
  labels = label_count parts one

  abbrev Passes : Test → Type 0
  Passes test = PassesAt parts group candidates attrs edges test

  abbrev Kept : Condition → Type 0
  Kept condition = IsKept parts group candidates attrs edges condition

  abbrev Asked : Condition → List ℕ → Type 0
  Asked condition tuple = Asks condition parts group candidates attrs edges tuple

  -- the edges of a dimension that a test sees
  abbrev seen : ℕ → Test → List Edge
  seen dim test = edges_on dim (filter (looks_at group test) edges)

  alike : {X : Type 0} (P : X → Type 0) {few many : X} → few ≡ many → P few ↔ P many
  alike P same = (subst P same, subst P (sym same))

  -- of a test that looks at all edges of both dimensions
  module _ (test : Test) (looks : (e : Edge) → looks_at group test e ≡ ((e.dim.0 == two) || (e.dim.0 == one))) where
    all_first : seen one test ≡ edges_on one edges
    all_first = on_same (looks_at group test) one edges (λ e on. looks e ∙ either_true (e.dim.0 == two) (e.dim.0 == one) on)

    all_second : seen two test ≡ edges_on two edges
    all_second = on_same (looks_at group test) two edges (λ e on. looks e ∙ or_here (e.dim.0 == two) (e.dim.0 == one) on)

  pub pair_tests : EachPair group.truths n labels Passes one_label ↔ Kept conditions.Pair
  pair_tests = tuples (n ∷ n ∷ []) (λ t. Passes (one_label (first t) (second t))) (Asked conditions.Pair) (λ u a v b.
      alike (λ m. m ≤ 1) (count_same (looks_at group (one_label u v)) one edges (λ e. (e.mother.0 == u) && (e.daughter.0 == v)) (λ e looks.
      let outer = and_parts (e.dim.0 == one) ((e.mother.0 == u) && (e.daughter.0 == v)) looks in
      let inner = and_parts (e.mother.0 == u) (e.daughter.0 == v) outer.1 in
      and_3 (e.dim.0 == one) (e.mother.0 == u) (e.daughter.0 == v) outer.0 inner.0 inner.1)))

  pub between_tests : EachPair group.truths n labels Passes projective ↔ Kept conditions.Between
  between_tests = tuples (n ∷ n ∷ n ∷ []) (λ t. AsksOf conditions.Between group 0 [] (filter (looks_at group (projective (first t) (second t))) edges) t) (Asked conditions.Between)
      (λ u a v b w c. alike (λ es. IsDaughter es u v → IsBetween u v w → Above es u w) (on_same (looks_at group (projective u v)) one edges (λ e on. on)))

  pub agr_tests : EachNode group.truths n labels Passes allowed_value ↔ Kept conditions.Agr
  agr_tests = tuples (n ∷ []) (λ t. Passes (allowed_value (first t))) (Asked conditions.Agr) (λ v a. (λ p. p, λ p. p))

  pub agree_tests : EachTriple group.truths n labels Passes agreeing ↔ Kept conditions.Agree
  agree_tests = tuples (n ∷ labels ∷ n ∷ []) (λ t. Passes (agreeing (first t) (second t) (third t))) (Asked conditions.Agree)
      (λ u a l b v c. asked_alike _ _ _ _ (placed group edges (agreeing u l v) u l v (λ e. refl)) (λ p. p, λ p. p))

  pub govern_tests : EachTriple group.truths n labels Passes governed ↔ Kept conditions.Govern
  govern_tests = tuples (n ∷ labels ∷ n ∷ []) (λ t. Passes (governed (first t) (second t) (third t))) (Asked conditions.Govern)
      (λ u a l b v c. asked_alike _ _ _ _ (placed group edges (governed u l v) u l v (λ e. refl)) (λ p. p, λ p. p))

  pub below_tests : EachPair group.truths n labels Passes climbing ↔ Kept conditions.Below
  below_tests = tuples (n ∷ n ∷ []) (λ t. Passes (climbing (first t) (second t))) (Asked conditions.Below) (λ u a v b.
      asked_alike _ _ _ _ (alike (λ es. Above es u v) (all_first (climbing u v) (λ e. refl))) (alike (λ es. Above es u v) (all_second (climbing u v) (λ e. refl))))

  pub blocked_tests : EachPair group.truths n labels Passes not_blocked ↔ Kept conditions.Blocked
  blocked_tests = tuples (n ∷ n ∷ []) (λ t. Passes (not_blocked (first t) (second t))) (Asked conditions.Blocked) (λ w a v b.
      asked_alike _ _ _ _ (alike (λ es. AboveByLast es w (set_row group w (slice_index candidates w)) v) (all_second (not_blocked w v) (λ e. refl))) (alike (λ es. Above es w v) (all_first (not_blocked w v) (λ e. refl))))

  -- ---- order

  abbrev yields : Type 0
  yields = truth_of group.truths 0 ≡ true

  abbrev own : ℕ → ℕ
  own u = slice_index (map (slice_index attrs) (attr_places conditions.Order parts group (u ∷ []))) 0

  -- what is asked of each two items of u, where x stands in the earlier and y in the later
  abbrev Orders : List Edge → ℕ → ℕ → ℕ → Type 0
  Orders es u x y = AllPairs (λ a b. IsInItem es yields (own u) u a x → IsInItem es yields (own u) u b y → x < y) (order_of group)

  -- by the edges of each node that a test sees: its own, and all of them where daughters take their yields along
  ordered : (few : ℕ → List Edge) → ((u label z : ℕ) → IsDaughterBy (few u) u label z ↔ IsDaughterBy (edges_on one edges) u label z) → ((u : ℕ) → yields → few u ≡ edges_on one edges)
      → ((u : ℕ) → u < n → (x y : ℕ) → x < n → y < n → Orders (few u) u x y) ↔ Kept conditions.Order
  ordered few daughter same =
      let down = λ (u label z : ℕ). item_alike (few u) (edges_on one edges) yields (own u) u label z (daughter u label z).0 (same u) in
      let up = λ (u label z : ℕ). item_alike (edges_on one edges) (few u) yields (own u) u label z (daughter u label z).1 (λ y. sym (same u y)) in
      let all = tuples (n ∷ n ∷ n ∷ []) (λ t. Orders (few (first t)) (first t) (second t) (third t)) (Asked conditions.Order)
      (λ u a x b y c. (λ h i j d k m p q. h i j d k m (up u _ x p) (up u _ y q), λ h i j d k m p q. h i j d k m (down u _ x p) (down u _ y q))) in
      (λ passes. all.0 (λ u a x b y c. passes u a x y b c), λ kept u a x y b c. all.1 kept u a x b y c)

  daughters_order : truth_of group.truths 0 ≡ false → EachNode group.truths n labels Passes ordered_daughters ↔ Kept conditions.Order
  daughters_order off = ordered (λ u. seen one (ordered_daughters u))
      (λ u label z. any_same (looks_at group (ordered_daughters u)) one edges (λ e. (e.mother.0 ≡ u) × (e.label.0 ≡ label) × (e.daughter.0 ≡ z)) (λ e is on. and_2 (e.dim.0 == one) (e.mother.0 == u) on (eq-eqb e.mother.0 u is.0)))
      (λ u on. absurd (false≢true (sym off ∙ on)))

  yields_order : EachNode group.truths n labels Passes ordered_yields ↔ Kept conditions.Order
  yields_order =
      let all = λ (u : ℕ). on_same (looks_at group (ordered_yields u)) one edges (λ e on. on) in
      ordered (λ u. seen one (ordered_yields u)) (λ u label z. alike (λ es. IsDaughterBy es u label z) (all u)) (λ u on. all u)

  pub order_tests : ((truth_of group.truths 0 ≡ false → EachNode group.truths n labels Passes ordered_daughters) × (truth_of group.truths 0 ≡ true → EachNode group.truths n labels Passes ordered_yields)) ↔ Kept conditions.Order
  order_tests = (
    λ passes. elim (cases_Bool (truth_of group.truths 0)) [ inl on ↦ yields_order.0 (passes.1 on) | inr off ↦ (daughters_order off).0 (passes.0 off) ],
    λ kept. (λ off. (daughters_order off).1 kept, λ on. yields_order.1 kept),
  )

  -- ---- linking

  link : (principle : Principle) → group.principle ≡ principle → (test : Test) (u l v : ℕ) → ((e : Edge) → looks_first one test e ≡ ((e.dim.0 == one) && (e.mother.0 == u) && (e.label.0 == l) && (e.daughter.0 == v)))
      → AsksLink principle group (slice_index candidates u) (seen two test) u l v ↔ AsksLink principle group (slice_index candidates u) (edges_on two edges) u l v
      → (IsDaughterBy (seen one test) u l v → AsksLink group.principle group (slice_index candidates u) (seen two test) u l v) ↔ Asked conditions.Link (u ∷ l ∷ v ∷ [])
  link principle is test u l v looks same = asked_alike _ _ _ _ (placed group edges test u l v looks)
      (subst (λ p. AsksLink p group (slice_index candidates u) (seen two test) u l v ↔ AsksLink p group (slice_index candidates u) (edges_on two edges) u l v) (sym is) same)

  pub linked_tests : (principle : Principle) (way : Linking) → group.principle ≡ principle
      → ((c u l v : ℕ) (few many : List Edge) → IsLinked way few u (map_row group u c l) v ↔ IsLinked way many u (map_row group u c l) v → AsksLink principle group c few u l v ↔ AsksLink principle group c many u l v)
      → EachTriple group.truths n labels Passes (linked way) ↔ Kept conditions.Link
  linked_tests principle way is asks = tuples (n ∷ labels ∷ n ∷ []) (λ t. Passes (linked way (first t) (second t) (third t))) (Asked conditions.Link)
      (λ u a l b v c. link principle is (linked way u l v) u l v (λ e. refl)
      (asks (slice_index candidates u) u l v (seen two (linked way u l v)) (edges_on two edges) (linked_same group edges way u l v (map_row group u (slice_index candidates u) l))))

  pub unlinked_tests : group.principle ≡ principles.LinkingNotDaughter → EachTriple group.truths n labels Passes unlinked ↔ Kept conditions.Link
  unlinked_tests is = tuples (n ∷ labels ∷ n ∷ []) (λ t. Passes (unlinked (first t) (second t) (third t))) (Asked conditions.Link)
      (λ u a l b v c. link principles.LinkingNotDaughter is (unlinked u l v) u l v (λ e. refl)
      (λ p named d. p named ((unlinked_same group edges u l v).1 d), λ p named d. p named ((unlinked_same group edges u l v).0 d)))

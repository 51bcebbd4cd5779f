-- Where no rule of a linking principle takes a value that remains, no test of it that is decided fails.
use Rattle.std.proofs.Common.{◌≡◌, ℕ, ◌<◌, ◌==◌, inl, inr, Bool, true, List, length, refl, sym, subst}
use Rattle.std.specs.Prelude.{Contains}
use Rattle.std.specs.List.{Any}
use Rattle.std.proofs.lemmas.Bool.{eq-eqb}
use Rattle.std.proofs.lemmas.List.Elements.{All-contains}
use Rattle.xdg_problem.specs.declared.analysis.Edge.{Edge}
use Rattle.xdg_problem.specs.declared.parts.Group.{Group}
use Rattle.xdg_problem.specs.declared.parts.Linking.{Linking}
use Rattle.xdg_problem.specs.declared.parts.Linking.TheVariants as linkings
use Rattle.xdg_problem.specs.declared.parts.Parts.{Parts}
use Rattle.xdg_problem.specs.declared.parts.Principle.{Principle}
use Rattle.xdg_problem.specs.declared.parts.Principle.TheVariants as principles
use Rattle.xdg_problem.specs.Arguments.{first_dim, second_dim, label_count}
use Rattle.xdg_problem.specs.Asking.{AsksLink, IsLinked}
use Rattle.xdg_problem.specs.Boxes.{Has, IsBox, edge_decision, entry_decision}
use Rattle.xdg_problem.specs.Features.{map_row, set_row}
use Rattle.xdg_problem.specs.Paths.{edges_on, AboveByFirst, AreSistersByAny, IsDaughter, IsDaughterBy, IsDaughterByAny}
use Rattle.xdg_problem.specs.Places.{edge, nodes, places}
use Rattle.xdg_problem.specs.Tests.{Test, can_link, looks_at, looks_first, looks_second, linked, unlinked}
use Rattle.xdg_problem.specs.Vectors.{shape}
use Rattle.xdg_problem.proofs.EachTest.{Each, each_tested}
use Rattle.xdg_problem.proofs.LinkTests.{sees}
use Rattle.xdg_facts.proofs.Contained.{any_weaker}
use Rattle.xdg_rules.specs.Rules.{may_edges, FailsTest, IsClosedFor, IsDecided, LinkingNotDaughter, LinkingReach, TestDecided, TestPasses, value_in}
use Rattle.xdg_rules.proofs.Shrinking.{may_exact, must_exact}
use Rattle.xdg_propcore.proofs.ByRules.{NoRule}
use Rattle.xdg_propcore.proofs.SeenEdges.{all_seen, any_seen, decided_must, only_value, seen, seen_at}
use Rattle.xdg_plink.specs.Family.{IsLinking}
use Rattle.xdg_facts.proofs.Truths.{and_2, or_here, either_true, and_3}

module _ (parts : Parts) (group : Group) (box : List (List Bool)) (is : IsBox (shape parts) box) where
  abbrev one : ℕ
  one = first_dim group

  abbrev two : ℕ
  two = second_dim group

  abbrev may : ℕ → List Edge
  may dim = may_edges parts box dim

  any_linked : (way : Linking) (u l v : ℕ) (P : Edge → Type 0) → ((e : Edge) → P e → can_link way u v e ≡ true)
      → Any P (may two) → Any P (edges_on two (seen parts group box (linked way u l v)))
  any_linked way u l v P can = (any_seen parts group box (linked way u l v) two P (λ e is. sees group way u l v e (can e is))).1

  path_seen : (way : Linking) (u l v from to : ℕ) (labels : List ℕ) → ((e : Edge) → can_link way u v e ≡ true)
      → AboveByFirst (may two) from labels to → AboveByFirst (edges_on two (seen parts group box (linked way u l v))) from labels to
  path_seen way u l v from to labels can =
      subst (λ es. AboveByFirst es from labels to) (sym (all_seen parts group box (linked way u l v) two (λ e. sees group way u l v e (can e))))

  sister_seen : (u l v : ℕ) (labels : List ℕ) → AreSistersByAny (may two) u labels v
      → AreSistersByAny (edges_on two (seen parts group box (linked linkings.Sisters u l v))) u labels v
  sister_seen u l v labels s =
      let few : List Edge = edges_on two (seen parts group box (linked linkings.Sisters u l v)) in
      any_linked linkings.Sisters u l v (λ e. (e.daughter.0 ≡ u) × IsDaughterByAny few e.mother.0 labels v)
      (λ e is. or_here (e.daughter.0 == u) (e.daughter.0 == v) (eq-eqb e.daughter.0 u is.0))
      (any_weaker (λ e. (e.daughter.0 ≡ u) × IsDaughterByAny (may two) e.mother.0 labels v) (λ e. (e.daughter.0 ≡ u) × IsDaughterByAny few e.mother.0 labels v)
      (may two)
      (λ e both. (
        both.0,
        any_linked linkings.Sisters u l v (λ f. (f.mother.0 ≡ e.mother.0) × Contains labels f.label.0 × (f.daughter.0 ≡ v))
            (λ f is. either_true (f.daughter.0 == u) (f.daughter.0 == v) (eq-eqb f.daughter.0 v is.2)) both.1,
      )) s)

  link_seen : (way : Linking) (u l v : ℕ) (labels : List ℕ) → IsLinked way (may two) u labels v
      → IsLinked way (edges_on two (seen parts group box (linked way u l v))) u labels v
  link_seen linkings.End u l v labels =
      any_linked linkings.End u l v (λ e. Contains labels e.label.0 × (e.daughter.0 ≡ v)) (λ e is. eq-eqb e.daughter.0 v is.1)
  link_seen linkings.Daughter u l v labels =
      any_linked linkings.Daughter u l v (λ e. (e.mother.0 ≡ u) × Contains labels e.label.0 × (e.daughter.0 ≡ v))
      (λ e is. and_2 (e.mother.0 == u) (e.daughter.0 == v) (eq-eqb e.mother.0 u is.0) (eq-eqb e.daughter.0 v is.2))
  link_seen linkings.Mother u l v labels =
      any_linked linkings.Mother u l v (λ e. (e.mother.0 ≡ v) × Contains labels e.label.0 × (e.daughter.0 ≡ u))
      (λ e is. and_2 (e.mother.0 == v) (e.daughter.0 == u) (eq-eqb e.mother.0 v is.0) (eq-eqb e.daughter.0 u is.2))
  link_seen linkings.BelowStart u l v labels = path_seen linkings.BelowStart u l v u v labels (λ e. refl)
  link_seen linkings.AboveStart u l v labels = path_seen linkings.AboveStart u l v v u labels (λ e. refl)
  link_seen linkings.Sisters u l v labels = sister_seen u l v labels

  -- what a test asks of an edge
  abbrev Asks : Principle → Test → ℕ → ℕ → ℕ → ℕ → Type 0
  Asks p test c u l v = IsDaughterBy (edges_on one (seen parts group box test)) u l v → AsksLink p group c (edges_on two (seen parts group box test)) u l v

  -- what the test of a way asks of it
  abbrev AsksIn : Linking → ℕ → ℕ → ℕ → ℕ → Type 0
  AsksIn way c u l v =
      IsDaughterBy (edges_on one (seen parts group box (linked way u l v))) u l v → 0 < length (map_row group u c l)
      → IsLinked way (edges_on two (seen parts group box (linked way u l v))) u (map_row group u c l) v

  -- a test that asks for an edge
  reach_fails : (principle : Principle) (way : Linking) → group.principle ≡ principle
      → ((c u l v : ℕ) → AsksIn way c u l v → Asks principle (linked way u l v) c u l v) → (u l v : ℕ) → IsDecided box (entry_decision u)
      → ((d x : ℕ) → Has box d x → LinkingReach parts group box way d x → ⊥)
      → (Asks group.principle (linked way u l v) (value_in box (entry_decision u)) u l v → ⊥) → ⊥
  reach_fails principle way same asks u l v decided closed fails = failing (λ d some. absurd (reach d some))
    where
      test : Test
      test = linked way u l v

      c : ℕ
      c = value_in box (entry_decision u)

      failing : AsksIn way c u l v → ⊥
      failing h = fails (subst (λ q. Asks q test c u l v) (sym same) (asks c u l v h))

      apart : (x : ℕ) → Has box (entry_decision u) x → IsLinked way (may two) u (map_row group u x l) v → ⊥
      apart x remains link =
          failing
          (λ d some. link_seen way u l v (map_row group u c l) (subst (λ z. IsLinked way (may two) u (map_row group u z l) v) (only_value box (entry_decision u) decided x remains) link))

      reach : IsDaughterBy (edges_on one (seen parts group box test)) u l v → 0 < length (map_row group u c l) → ⊥
      reach d some =
          let (on, saw, here) = seen_at parts group box test one u l v d in
          closed (edge_decision parts (edge one u l v)) 0 here (record {
            place = edge one u l v;
            is = on;
            says = (refl, refl);
            links = λ x remains. subst (λ z. 0 < length (map_row group u z l)) (sym (only_value box (entry_decision u) decided x remains)) some;
            apart = apart;
          })

  -- a test that asks for none
  apart_fails : group.principle ≡ principles.LinkingNotDaughter → (u l v : ℕ) → TestDecided parts group box (unlinked u l v)
      → ((d x : ℕ) → Has box d x → LinkingNotDaughter parts group box d x → ⊥)
      → (Asks group.principle (unlinked u l v) (value_in box (entry_decision u)) u l v → ⊥) → ⊥
  apart_fails same u l v decided closed fails = failing (λ d keeps joined. apart d keeps joined)
    where
      test : Test
      test = unlinked u l v

      c : ℕ
      c = value_in box (entry_decision u)

      failing : Asks principles.LinkingNotDaughter test c u l v → ⊥
      failing h = fails (subst (λ q. Asks q test c u l v) (sym same) h)

      looks : (e : Edge) → (e.mother.0 ≡ u) × (e.daughter.0 ≡ v) → (e.dim.0 == two) ≡ true → looks_at group test e ≡ true
      looks e at on =
          or_here (looks_second two test e) (looks_first one test e)
          (and_3 (e.dim.0 == two) (e.mother.0 == u) (e.daughter.0 == v) on (eq-eqb e.mother.0 u at.0) (eq-eqb e.daughter.0 v at.1))

      apart : IsDaughterBy (edges_on one (seen parts group box test)) u l v → Contains (set_row group u c) l → IsDaughter (edges_on two (seen parts group box test)) u v → ⊥
      apart d keeps joined =
          let (on, saw, here) = seen_at parts group box test one u l v d in
          let (k, e, within, at, (m, b)) = (any_seen parts group box test two (λ e. (e.mother.0 ≡ u) × (e.daughter.0 ≡ v)) looks).0 joined in
          let other = (may_exact parts box two e).0 (k, within, at) in
          let one_value : IsDecided box (edge_decision parts e) = All-contains (λ e. looks_at group test e ≡ true → IsDecided box (edge_decision parts e))
          (places parts) e decided.edges other.0.0 (looks e (m, b) (eq-eqb e.dim.0 two other.0.1)) in
          let must = (must_exact parts box two e is).1 (other.0, decided_must parts box e one_value other.1) in
          closed (edge_decision parts (edge one u l v)) 0 here (record {
            place = edge one u l v;
            is = on;
            other = e;
            other_is = other.0;
            mother = sym m;
            daughter = sym b;
            keeps = λ x remains. subst (λ z. Contains (set_row group u z) l) (sym (only_value box (entry_decision u) decided.entry x remains)) keeps;
            one = inl ((refl, refl), must);
          })

  -- a test is decided and fails
  abbrev Fine : Test → Type 0
  Fine test = TestDecided parts group box test → (TestPasses parts group box test → ⊥) → ⊥

  each_fine : (p : Principle) → IsLinking p → group.principle ≡ p → NoRule parts group box p
      → Each group.truths (nodes parts) (label_count parts one) Fine p
  each_fine principles.LinkingEnd f e closed = λ u a l b v w decided fails. reach_fails principles.LinkingEnd linkings.End e (λ c u l v h. h) u l v decided.entry closed fails
  each_fine principles.LinkingDaughter f e closed = λ u a l b v w decided fails. reach_fails principles.LinkingDaughter linkings.Daughter e (λ c u l v h. h) u l v decided.entry closed fails
  each_fine principles.LinkingMother f e closed = λ u a l b v w decided fails. reach_fails principles.LinkingMother linkings.Mother e (λ c u l v h. h) u l v decided.entry closed fails
  each_fine principles.LinkingBelowStart f e closed = λ u a l b v w decided fails. reach_fails principles.LinkingBelowStart linkings.BelowStart e (λ c u l v h. h) u l v decided.entry closed fails
  each_fine principles.LinkingAboveStart f e closed = λ u a l b v w decided fails. reach_fails principles.LinkingAboveStart linkings.AboveStart e (λ c u l v h. h) u l v decided.entry closed fails
  each_fine principles.LinkingSisters f e closed = λ u a l b v w decided fails. reach_fails principles.LinkingSisters linkings.Sisters e (λ c u l v h. h) u l v decided.entry closed fails
  each_fine principles.LinkingNotDaughter f e closed = λ u a l b v w decided fails. apart_fails e u l v decided closed fails
  each_fine principle f e closed = absurd f

  none_fails : IsLinking group.principle → NoRule parts group box group.principle → FailsTest parts group box → ⊥
  none_fails linking closed failing =
      each_tested group.truths (nodes parts) (label_count parts one) Fine group.principle (each_fine group.principle linking refl closed) failing.test
      failing.is failing.decided failing.fails

  -- so the box is closed
  pub closed_by_rules : IsLinking group.principle → NoRule parts group box group.principle → IsClosedFor parts group box
  closed_by_rules linking none d v remains (inl failing) = none_fails linking none failing
  closed_by_rules linking none d v remains (inr rule) = none d v remains rule

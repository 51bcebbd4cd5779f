-- The tests of each principle name the kinds at which they look.
use Rattle.std.proofs.Common.{◌≡◌, ◌⊎◌, ℕ, ◌<◌, inl, inr, Bool, true, false, Some, length, refl, sym, arith, subst}
use Rattle.std.specs.Prelude.{◌==◌, ◌&&◌, nat_le}
use Rattle.std.proofs.lemmas.Bool.{and_from, eq-eqb, false≢true}
use Rattle.xdg_facts.proofs.Truths.{and_2, either_true, or_here, and_3, never}
use Rattle.xdg_problem.specs.declared.parts.Group.{Group}
use Rattle.xdg_problem.specs.declared.parts.Linking.{Linking}
use Rattle.xdg_problem.specs.declared.parts.Linking.TheVariants as linkings
use Rattle.xdg_problem.specs.declared.parts.Parts.{Parts}
use Rattle.xdg_problem.specs.declared.parts.Principle.{Principle}
use Rattle.xdg_problem.specs.declared.parts.Principle.TheVariants as principles
use Rattle.xdg_problem.specs.Arguments.{first_dim, second_dim, truth_of}
use Rattle.xdg_problem.specs.Places.{edge}
use Rattle.xdg_problem.specs.Tests.{Test, IsTestOf, entry_node, looks_first, looks_second, test_attrs, out_count, no_cycle, ordered_daughters, ordered_yields, projective, allowed_value, agreeing, governed, climbing, not_blocked, can_link, linked, unlinked}
use Rattle.xdg_problem.proofs.Looking.{sees_place}
use Rattle.xdg_propcore.specs.Kinds.{IsNamed, entry_kind, attr_kind, edge_kind}
use Rattle.xdg_propcore.specs.UseKinds.{IsKindFor, IsKindOf}
use Rattle.xdg_problem.specs.Principles.{looks_at_entries, looks_at_attrs, looks_at_first, looks_at_second, linking_of, way_in}

-- a principle that looks at nothing
none : (one two kind : ℕ) → ((false ≡ true) × (kind ≡ entry_kind)) ⊎ (((false ≡ true) × (kind ≡ attr_kind one)) ⊎ (((false ≡ true) × (kind ≡ edge_kind one)) ⊎ ((false ≡ true) × (kind ≡ edge_kind two)))) → ⊥
none one two kind k = elim k [
  | inl x ↦ false≢true x.0
  | inr more ↦ elim more [
    | inl x ↦ false≢true x.0
    | inr edges ↦ elim edges [ inl x ↦ false≢true x.0 | inr x ↦ false≢true x.0 ]
  ]
]

-- in each way an edge can link the only node to itself
can_here : (dim : ℕ) (way : Linking) → can_link way 0 0 (edge dim 0 0 0) ≡ true
can_here dim linkings.End = refl
can_here dim linkings.Daughter = refl
can_here dim linkings.Mother = refl
can_here dim linkings.BelowStart = refl
can_here dim linkings.AboveStart = refl
can_here dim linkings.Sisters = refl

module _ (parts : Parts) (group : Group) where
  abbrev one : ℕ
  one = first_dim group

  abbrev two : ℕ
  two = second_dim group

  same : (dim : ℕ) → (dim == dim) ≡ true
  same dim = eq-eqb dim dim refl

  -- by a test of the principle in a sentence of one node and one label
  named_by : (p : Principle) → group.principle ≡ p → (test : Test) → IsTestOf p group.truths 1 1 test → (looks_at_entries p ≡ true → entry_node test ≡ Some 0) → (looks_at_attrs p ≡ true → 0 < length (test_attrs parts group test)) → (looks_at_first p ≡ true → looks_first one test (edge one 0 0 0) ≡ true) → (looks_at_second p ≡ true → looks_second two test (edge two 0 0 0) ≡ true) → (kind : ℕ) → IsKindOf p one two kind → IsNamed parts group kind
  named_by p e test is entry attrs first second kind k = record {
    size = 1;
    labels = 1;
    test = test;
    is = subst (λ q. IsTestOf q group.truths 1 1 test) (sym e) is;
    looks = elim k [
      | inl x ↦ inl (0, entry x.0, x.1)
      | inr more ↦ elim more [
        | inl x ↦ inr (inl (attrs x.0, x.1))
        | inr edges ↦ elim edges [
          | inl x ↦ inr (inr (edge one 0 0 0, either_true (looks_second two test (edge one 0 0 0)) (looks_first one test (edge one 0 0 0)) (first x.0), x.1))
          | inr x ↦ inr (inr (edge two 0 0 0, or_here (looks_second two test (edge two 0 0 0)) (looks_first one test (edge two 0 0 0)) (second x.0), x.1))
        ]
      ]
    ];
  }

  cycle_looks : looks_first one (no_cycle 0) (edge one 0 0 0) ≡ true
  cycle_looks = and_from (one == one) (nat_le 0 0) (same one) refl

  count_looks : looks_first one (out_count 0 0 0) (edge one 0 0 0) ≡ true
  count_looks = and_from ((one == one) && (0 == 0) && (0 == 0)) (nat_le 0 0) (and_from ((one == one) && (0 == 0)) (0 == 0) (and_from (one == one) (0 == 0) (same one) refl) refl) refl

  place_looks : ((one == one) && (0 == 0) && (0 == 0) && (0 == 0)) ≡ true
  place_looks = sees_place one 0 0 0 (edge one 0 0 0) (refl, refl, refl) (same one)

  way_looks : (way : Linking) → ((two == two) && can_link way 0 0 (edge two 0 0 0)) ≡ true
  way_looks way = and_2 (two == two) (can_link way 0 0 (edge two 0 0 0)) (same two) (can_here two way)

  order_named : (along : Bool) → truth_of group.truths 0 ≡ along → group.principle ≡ principles.Order → (kind : ℕ) → IsKindOf principles.Order one two kind → IsNamed parts group kind
  order_named true truth e kind k = named_by principles.Order e (ordered_yields 0) (truth, omega arith) never (λ h. omega arith) (λ h. same one) never kind k
  order_named false truth e kind k = named_by principles.Order e (ordered_daughters 0) (truth, omega arith) never (λ h. omega arith) (λ h. and_2 (one == one) (0 == 0) (same one) refl) never kind k

  each_named : (p : Principle) → group.principle ≡ p → (kind : ℕ) → IsKindOf p one two kind → IsNamed parts group kind
  each_named principles.Graph e kind k = absurd (none one two kind k)
  each_named principles.Entries e kind k = absurd (none one two kind k)
  each_named principles.Tree e kind k = named_by principles.Tree e (no_cycle 0) (omega arith) never never (λ h. cycle_looks) never kind k
  each_named principles.Dag e kind k = named_by principles.Dag e (no_cycle 0) (omega arith) never never (λ h. cycle_looks) never kind k
  each_named principles.Valency e kind k = named_by principles.Valency e (out_count 0 0 0) (omega arith, omega arith, omega arith) (λ h. refl) never (λ h. count_looks) never kind k
  each_named principles.Order e kind k = order_named (truth_of group.truths 0) refl e kind k
  each_named principles.Projectivity e kind k = named_by principles.Projectivity e (projective 0 0) (omega arith, omega arith) never never (λ h. same one) never kind k
  each_named principles.Agr e kind k = named_by principles.Agr e (allowed_value 0) (omega arith) (λ h. refl) (λ h. omega arith) never never kind k
  each_named principles.Agreement e kind k = named_by principles.Agreement e (agreeing 0 0 0) (omega arith, omega arith, omega arith) (λ h. refl) (λ h. omega arith) (λ h. place_looks) never kind k
  each_named principles.Government e kind k = named_by principles.Government e (governed 0 0 0) (omega arith, omega arith, omega arith) (λ h. refl) (λ h. omega arith) (λ h. place_looks) never kind k
  each_named principles.Climbing e kind k = named_by principles.Climbing e (climbing 0 0) (omega arith, omega arith) never never (λ h. same one) (λ h. same two) kind k
  each_named principles.Barriers e kind k = named_by principles.Barriers e (not_blocked 0 0) (omega arith, omega arith) (λ h. refl) never (λ h. same one) (λ h. same two) kind k
  each_named principles.LinkingNotDaughter e kind k = named_by principles.LinkingNotDaughter e (unlinked 0 0 0) (omega arith, omega arith, omega arith) (λ h. refl) never (λ h. place_looks) (λ h. and_3 (two == two) (0 == 0) (0 == 0) (same two) refl refl) kind k
  each_named (principles.Rule formula) e kind k = absurd (none one two kind k)
  each_named (principles.Bound costs bound) e kind k = absurd (none one two kind k)
  each_named principle e kind k = named_by principle e (linked (way_in (linking_of principle)) 0 0 0) (refl, (omega arith, omega arith, omega arith)) (λ h. refl) never (λ h. place_looks) (λ h. way_looks (way_in (linking_of principle))) kind k

  pub kind_named : (kind : ℕ) → IsKindFor group kind → IsNamed parts group kind
  kind_named kind k = each_named group.principle refl kind k

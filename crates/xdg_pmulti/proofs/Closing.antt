-- Where the rules take nothing that remains, no test is decided and fails: the box is closed.
use Rattle.std.proofs.Common.{◌≡◌, ℕ, ◌⊎◌, ◌==◌, inl, inr, Bool, true, List, refl, sym, subst}
use Rattle.std.specs.Prelude.{Contains}
use Rattle.std.proofs.lemmas.Bool.{eq-eqb}
use Rattle.std.proofs.lemmas.List.Elements.{All-contains}
use Rattle.std.specs.List.{Any}
use Rattle.xdg_problem.proofs.Walks.{above_trans, closed_above, by_last}
use Rattle.xdg_problem.specs.declared.analysis.Edge.{Edge}
use Rattle.xdg_problem.specs.declared.parts.Group.{Group}
use Rattle.xdg_problem.specs.declared.parts.Parts.{Parts}
use Rattle.xdg_problem.specs.declared.parts.Principle.{Principle}
use Rattle.xdg_problem.specs.declared.parts.Principle.TheVariants as principles
use Rattle.xdg_problem.specs.Arguments.{first_dim, second_dim, label_count}
use Rattle.xdg_problem.specs.Boxes.{IsBox, edge_decision, entry_decision}
use Rattle.xdg_problem.specs.Features.{set_row}
use Rattle.xdg_problem.specs.Paths.{Above, AboveByLast}
use Rattle.xdg_problem.specs.Places.{nodes, places}
use Rattle.xdg_problem.specs.Tests.{Test, IsTestOf, looks_at, climbing, not_blocked}
use Rattle.xdg_problem.specs.Vectors.{shape}
use Rattle.xdg_problem.proofs.DecidingPaths.{decided_above}
use Rattle.xdg_rules.specs.Rules.{may_edges, must_edges, IsClosedFor, IsDecided, TestDecided, TestPasses, value_in}
use Rattle.xdg_rules.proofs.Among.{Among, above_among}
use Rattle.xdg_rules.proofs.Shrinking.{may_exact, must_exact}
use Rattle.xdg_propcore.proofs.ByRules.{NoRule, PassesAll, closed_by}
use Rattle.xdg_propcore.proofs.SeenEdges.{all_seen, decided_must, only_value}
use Rattle.xdg_pmulti.specs.Family.{IsOfFamily}
use Rattle.xdg_facts.proofs.Truths.{or_here, either_true}

module _ (parts : Parts) (group : Group) (box : List (List Bool)) (is : IsBox (shape parts) box) where
  abbrev one : ℕ
  one = first_dim group

  abbrev two : ℕ
  two = second_dim group

  abbrev may : ℕ → List Edge
  may dim = may_edges parts box dim

  -- ---- climbing

  -- an edge that may be on the first dimension has its daughter below its mother on the second
  edge_climbs : NoRule parts group box principles.Climbing → (e : Edge) → Contains (may one) e → Above (may two) e.mother.0 e.daughter.0
  edge_climbs none e stands = elim (decided_above (may two) e.mother.0 e.daughter.0) [
    | inl above ↦ above
    | inr apart ↦
        absurd
        (let m = (may_exact parts box one e).0 stands in
        none (edge_decision parts e) 0 m.1 (record { place = e; is = m.0; says = (refl, refl); apart = apart }))
  ]

  path_climbs : NoRule parts group box principles.Climbing → (u v : ℕ) → Above (may one) u v → Above (may two) u v
  path_climbs none u v above = closed_above (may one) u v (λ x. Above (may two) u x)
      (λ e stands from.
      let step = edge_climbs none e stands in
      elim from [
        | inl here ↦ subst (λ x. Above (may two) x e.daughter.0) here step
        | inr far ↦ above_trans (may two) u e.mother.0 e.daughter.0 far step
      ])
      above

  climbing_test : (test : Test) → IsTestOf principles.Climbing group.truths (nodes parts) (label_count parts one) test → NoRule parts group box principles.Climbing
      → TestPasses parts group box test
  climbing_test (climbing u v) of none = λ above.
      let first = all_seen parts group box (climbing u v) one (λ e on. either_true (e.dim.0 == two) (e.dim.0 == one) on) in
      let second = all_seen parts group box (climbing u v) two (λ e on. or_here (e.dim.0 == two) (e.dim.0 == one) on) in
      subst (λ es. Above es u v) (sym second) (path_climbs none u v (subst (λ es. Above es u v) first above))
  climbing_test test of none = absurd of

  -- ---- barriers

  module _ (w v : ℕ) (decided : TestDecided parts group box (not_blocked w v)) where
    abbrev entry : ℕ
    entry = value_in box (entry_decision w)

    -- an edge of the second dimension that may be must be
    must_be : Among (may two) (must_edges parts box two)
    must_be e stands =
        let m = (may_exact parts box two e).0 stands in
        let one_value : IsDecided box (edge_decision parts e) = All-contains
        (λ e. looks_at group (not_blocked w v) e ≡ true → IsDecided box (edge_decision parts e)) (places parts) e decided.edges m.0.0
        (or_here (e.dim.0 == two) (e.dim.0 == one) (on_two e m.0.1)) in
        (must_exact parts box two e is).1 (m.0, decided_must parts box e one_value m.1)
      where
        on_two : (e : Edge) → e.dim.0 ≡ two → (e.dim.0 == two) ≡ true
        on_two e same = eq-eqb e.dim.0 two same

    last_edge : NoRule parts group box principles.Barriers → (e : Edge) → Contains (may two) e → Contains (set_row group w entry) e.label.0
        → (e.mother.0 ≡ w) ⊎ Above (may two) w e.mother.0 → Above (may one) w e.daughter.0
    last_edge none e stands label from = elim (decided_above (may one) w e.daughter.0) [
      | inl above ↦ above
      | inr apart ↦ absurd (
          let m = (may_exact parts box two e).0 stands in
          none (edge_decision parts e) 0 m.1 (record {
            place = e;
            is = m.0;
            says = (refl, refl);
            barrier = w;
            above = elim from [ inl here ↦ inl (sym here) | inr far ↦ inr (above_among (may two) (must_edges parts box two) must_be w e.mother.0 far) ];
            blocks = λ c remains. subst (λ k. Contains (set_row group w k) e.label.0) (sym (only_value box (entry_decision w) decided.entry c remains)) label;
            apart = apart;
          }))
    ]

    path_passes : NoRule parts group box principles.Barriers → AboveByLast (may two) w (set_row group w entry) v → Above (may one) w v
    path_passes none path = along (by_last (may two) (set_row group w entry) w v path)
      where
        along : Any (λ e. Contains (set_row group w entry) e.label.0 × (((e.mother.0 ≡ w) ⊎ Above (may two) w e.mother.0) × (e.daughter.0 ≡ v))) (may two)
            → Above (may one) w v
        along (k, e, l, at, (label, (from, to))) = subst (λ x. Above (may one) w x) to (last_edge none e (k, l, at) label from)

    blocked_passes : NoRule parts group box principles.Barriers → TestPasses parts group box (not_blocked w v)
    blocked_passes none = λ path.
        let first = all_seen parts group box (not_blocked w v) one (λ e on. either_true (e.dim.0 == two) (e.dim.0 == one) on) in
        let second = all_seen parts group box (not_blocked w v) two (λ e on. or_here (e.dim.0 == two) (e.dim.0 == one) on) in
        subst (λ es. Above es w v) (sym first) (path_passes none (subst (λ es. AboveByLast es w (set_row group w entry) v) second path))

  barriers_test : (test : Test) → IsTestOf principles.Barriers group.truths (nodes parts) (label_count parts one) test → TestDecided parts group box test
      → NoRule parts group box principles.Barriers → TestPasses parts group box test
  barriers_test (not_blocked w v) of decided none = blocked_passes w v decided none
  barriers_test test of decided none = absurd of

  -- ---- both

  passes_all : (p : Principle) → IsOfFamily p → NoRule parts group box p → PassesAll parts group box p
  passes_all principles.Climbing family none test of decided = climbing_test test of none
  passes_all principles.Barriers family none test of decided = barriers_test test of decided none
  passes_all p family none test of decided = absurd family

  -- where the rules take nothing that remains the box is closed
  pub closed_by_rules : IsOfFamily group.principle → NoRule parts group box group.principle → IsClosedFor parts group box
  closed_by_rules family none = closed_by parts group box (passes_all group.principle family none) none

-- Where nothing is left at all nodes the box is closed: no rule takes a value that remains, and then no test is decided and fails.
use Rattle.std.proofs.Common.{◌≡◌, ℕ, ◌<◌, inl, inr, Bool, List, length, refl, sym, ◌∙◌, arith, subst}
use Rattle.std.specs.Prelude.{Contains}
use Rattle.std.proofs.lemmas.Bool.{cases_eq}
use Rattle.xdg_problem.specs.declared.analysis.Edge.{Edge}
use Rattle.xdg_problem.specs.declared.parts.Group.{Group}
use Rattle.xdg_problem.specs.declared.parts.Parts.{Parts}
use Rattle.xdg_problem.specs.declared.parts.Principle.{Principle}
use Rattle.xdg_problem.specs.declared.parts.Principle.TheVariants as principles
use Rattle.xdg_problem.specs.Arguments.{first_dim, label_count}
use Rattle.xdg_problem.specs.Boxes.{Has, entry_decision, edge_decision}
use Rattle.xdg_problem.specs.Features.{set_row, map_row}
use Rattle.xdg_problem.specs.Places.{edge, nodes}
use Rattle.xdg_problem.specs.Tests.{Test, IsTestOf, allowed_value, agreeing, governed}
use Rattle.xdg_facts.proofs.Decided.{decided_contains}
use Rattle.xdg_problem.proofs.PlaceOrder.{is_place}
use Rattle.xdg_rules.specs.Rules.{IsDecided, TestDecided, TestPasses, IsClosedFor, attr_of_node, value_in}
use Rattle.xdg_propcore.proofs.ByRules.{NoRule, PassesAll, closed_by}
use Rattle.xdg_propcore.proofs.SeenEdges.{only_value, seen_at, value_has}
use Rattle.xdg_pagree.specs.Family.{IsOfFamily}
use Rattle.xdg_pagree.specs.Places.{PlaceAsks, PlaceLacks, IsNodeDone, AreNodesDone}

module _ (parts : Parts) (group : Group) (box : List (List Bool)) where
  -- ---- agr

  agr_test : (test : Test) → IsTestOf principles.Agr group.truths (nodes parts) (label_count parts (first_dim group)) test → TestDecided parts group box test
      → NoRule parts group box principles.Agr → TestPasses parts group box test
  agr_test (allowed_value v) is decided none =
      let c : ℕ = value_in box (entry_decision v) in
      let a : ℕ = attr_of_node parts group 0 v in
      let value : IsDecided box a = decided.attrs 0 0 (omega arith) in
      elim (decided_contains (set_row group v c) (value_in box a)) [
        | inl there ↦ there
        | inr gone ↦
            absurd
            (none a (value_in box a) (value_has box a value)
            (record {
              node = v;
              within = is;
              lacks = inl
                  (refl, λ x remains there. gone (subst (λ k. Contains (set_row group v k) (value_in box a)) (only_value box (entry_decision v) decided.entry x remains) there));
            }))
      ]
  agr_test test is decided none = absurd is

  -- ---- agreement

  agreement_test : (test : Test) → IsTestOf principles.Agreement group.truths (nodes parts) (label_count parts (first_dim group)) test
      → TestDecided parts group box test → NoRule parts group box principles.Agreement → TestPasses parts group box test
  agreement_test (agreeing u l v) is decided none = λ stands asks.
      let e : Edge = edge (first_dim group) u l v in
      let (on, looks, present) = seen_at parts group box (agreeing u l v) (first_dim group) u l v stands in
      let a : ℕ = attr_of_node parts group 0 u in
      let b : ℕ = attr_of_node parts group 1 v in
      let one : IsDecided box a = decided.attrs 0 0 (omega arith) in
      let two : IsDecided box b = decided.attrs 1 0 (omega arith) in
      elim (cases_eq (value_in box a) (value_in box b)) [
        | inl same ↦ same
        | inr differ ↦ absurd (none (edge_decision parts e) 0 present (record {
          place = e;
          is = on;
          asks = λ c remains. subst (λ k. Contains (set_row group u k) l) (sym (only_value box (entry_decision u) decided.entry c remains)) asks;
          lacks = inl ((refl, refl), λ x here there. differ (sym (only_value box a one x here) ∙ only_value box b two x there));
        }))
      ]
  agreement_test test is decided none = absurd is

  -- ---- government

  government_test : (test : Test) → IsTestOf principles.Government group.truths (nodes parts) (label_count parts (first_dim group)) test
      → TestDecided parts group box test → NoRule parts group box principles.Government → TestPasses parts group box test
  government_test (governed u l v) is decided none = λ stands some.
      let e : Edge = edge (first_dim group) u l v in
      let (on, looks, present) = seen_at parts group box (governed u l v) (first_dim group) u l v stands in
      let a : ℕ = attr_of_node parts group 0 v in
      let c : ℕ = value_in box (entry_decision u) in
      let value : IsDecided box a = decided.attrs 0 0 (omega arith) in
      elim (decided_contains (map_row group u c l) (value_in box a)) [
        | inl there ↦ there
        | inr gone ↦ absurd (none (edge_decision parts e) 0 present (record {
          place = e;
          is = on;
          governs = λ k remains. subst (λ k. 0 < length (map_row group u k l)) (sym (only_value box (entry_decision u) decided.entry k remains)) some;
          lacks = inl (
            (refl, refl),
            λ k remains x here there. gone
                (subst (Contains (map_row group u c l)) (only_value box a value x here)
                (subst (λ i. Contains (map_row group u i l) x) (only_value box (entry_decision u) decided.entry k remains) there)),
          );
        }))
      ]
  government_test test is decided none = absurd is

  -- ---- all three

  passes_all : (p : Principle) → IsOfFamily p → NoRule parts group box p → PassesAll parts group box p
  passes_all principles.Agr family none test is decided = agr_test test is decided none
  passes_all principles.Agreement family none test is decided = agreement_test test is decided none
  passes_all principles.Government family none test is decided = government_test test is decided none
  passes_all p family none test is decided = absurd family

  -- where the rules take nothing that remains the box is closed
  pub closed_by_rules : IsOfFamily group.principle → NoRule parts group box group.principle → IsClosedFor parts group box
  closed_by_rules family none = closed_by parts group box (passes_all group.principle family none) none

  rules_done : (p : Principle) → IsOfFamily p → group.principle ≡ p → AreNodesDone (nodes parts) parts group box → NoRule parts group box p
  rules_done principles.Agr family e all d v remains rule =
      let here = subst (λ p. IsNodeDone p parts group rule.node box) e (all rule.node rule.within) in
      elim rule.lacks [
        | inl value ↦ here.0 v (subst (λ k. Has box k v) value.0 remains) value.1
        | inr entry ↦ here.1 v (subst (λ k. Has box k v) entry.0 remains) entry.1
      ]
  rules_done principles.Agreement family e all d v remains rule =
      let here = subst (λ p. IsNodeDone p parts group rule.place.mother.0 box) e (all rule.place.mother.0 (is_place parts rule.place rule.is.0).mother) in
      here rule.place.label.0 (subst (λ p. PlaceAsks p group box rule.place.mother.0 rule.place.label.0) (sym e) rule.asks) rule.place rule.is refl refl d v
      remains (subst (λ p. PlaceLacks p parts group box rule.place d v) (sym e) rule.lacks)
  rules_done principles.Government family e all d v remains rule =
      let here = subst (λ p. IsNodeDone p parts group rule.place.mother.0 box) e (all rule.place.mother.0 (is_place parts rule.place rule.is.0).mother) in
      here rule.place.label.0 (subst (λ p. PlaceAsks p group box rule.place.mother.0 rule.place.label.0) (sym e) rule.governs) rule.place rule.is refl refl d v
      remains (subst (λ p. PlaceLacks p parts group box rule.place d v) (sym e) rule.lacks)
  rules_done p family e all d v remains rule = absurd family

  -- where nothing is left at all nodes the box is closed
  pub closed_by_nodes : IsOfFamily group.principle → AreNodesDone (nodes parts) parts group box → IsClosedFor parts group box
  closed_by_nodes family all = closed_by_rules family (rules_done group.principle family refl all)

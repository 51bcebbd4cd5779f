-- What the rules take at a place and at a node, and that nothing is left there.
use Rattle.std.proofs.Common.{◌≡◌, ℕ, ◌<◌, inl, inr, Bool, true, List, refl, sym, ◌∙◌, subst}
use Rattle.std.specs.Prelude.{Contains}
use Rattle.xdg_problem.specs.declared.analysis.Edge.{Edge}
use Rattle.xdg_problem.specs.declared.parts.Group.{Group}
use Rattle.xdg_problem.specs.declared.parts.Parts.{Parts}
use Rattle.xdg_problem.specs.declared.parts.Principle.{Principle}
use Rattle.xdg_problem.specs.declared.parts.Principle.TheVariants as principles
use Rattle.xdg_problem.specs.Analyses.{IsPlace}
use Rattle.xdg_problem.specs.Arguments.{first_dim}
use Rattle.xdg_problem.specs.Boxes.{Has, IsBox, LiesIn, Must, entry_decision, edge_decision}
use Rattle.xdg_problem.specs.Features.{set_row, map_row}
use Rattle.xdg_problem.specs.Places.{nodes}
use Rattle.xdg_problem.specs.Problems.{IsGroup}
use Rattle.xdg_problem.specs.Vectors.{shape}
use Rattle.xdg_problem.proofs.PlaceOrder.{place_is}
use Rattle.xdg_rules.specs.Rules.{EachEntry, IsPlaceOn, AgrValues, Takes, TakesBy, must_edges, attr_of_node}
use Rattle.xdg_rules.proofs.Shrinking.{must_exact, must_among}
use Rattle.xdg_store.specs.States.{State, Known}
use Rattle.xdg_propcore.specs.Passes.{Progress, Goes}
use Rattle.xdg_pagree.specs.Family.{IsOfPlaces}
use Rattle.xdg_pagree.proofs.AtNodes.{asks_fewer, lacks_present}
use Rattle.xdg_pagree.proofs.Keeping.{rule_at}
use Rattle.xdg_pagree.specs.Places.{PlaceAsks, PlaceLacks, LacksOther, LacksEntry, LacksValue, NoneLacks, IsDoneAt, IsNodeDone}
use Rattle.xdg_graph.specs.Slots.{decision_of}
use Rattle.xdg_propcore.specs.Sweeps.{Sweeps, TakesInside}
use Rattle.xdg_graph.specs.declared.slot.Slot.{Slot}
use Rattle.xdg_propcore.proofs.Sweeping.{sweeps_start, sweeps_both, sweeps_taken, takes_later}

-- nothing is left at a place of a principle
pub done_by : (principle : Principle) (parts : Parts) (group : Group) (e : Edge) (box : List (List Bool)) → group.principle ≡ principle → ((d v : ℕ) → Has box d v → PlaceLacks principle parts group box e d v → ⊥) → IsDoneAt parts group e box
done_by principle parts group e box is none = subst (λ p. (d v : ℕ) → Has box d v → PlaceLacks p parts group box e d v → ⊥) (sym is) none

-- ---- a place of a principle that asks for something there

module _ (group : Group) (s : State) (known : Known s) (is : IsGroup s.parts group) (p : Principle) (of : IsOfPlaces p) (principle : group.principle ≡ p)
    (e : Edge) (place : IsPlace s.parts e) (dim : e.dim.0 ≡ first_dim group) (asks : PlaceAsks p group s.now e.mother.0 e.label.0) where
  place_on : IsPlaceOn s.parts (first_dim group) e
  place_on = (place_is s.parts e place, dim)

  place_takes : (box : List (List Bool)) (d v : ℕ) → LiesIn box s.now → PlaceLacks p s.parts group box e d v → Takes s.parts group box d v
  place_takes box d v lies lacks = inr (subst (λ q. TakesBy q s.parts group box d v) (sym principle) (rule_at p of s.parts group box e place_on (asks_fewer p group box s.now e.mother.0 e.label.0 lies asks) d v lacks))

  must_here : Must s.parts s.now e → (box : List (List Bool)) → IsBox (shape s.parts) box → LiesIn box s.now → Contains (must_edges s.parts box (first_dim group)) e
  must_here must box box_is lies = must_among s.parts box s.now box_is lies (first_dim group) e ((must_exact s.parts s.now (first_dim group) e known.is_box).1 (place_on, must))

  -- the edge goes
  place_gone : PlaceLacks p s.parts group s.now e (edge_decision s.parts e) 0 → (q r : Progress) (new : State)
      → ((g : Group) → IsGroup s.parts g → Takes s.parts g s.now (edge_decision s.parts e) 0 → Goes g q s r new) → Known new
      → (Has new.now (edge_decision s.parts e) 0 → r.dead ≡ true) → Sweeps group (IsDoneAt s.parts group e) q s r new
  place_gone lacks q r new goes new_known gone =
      let step = goes group is (place_takes s.now (edge_decision s.parts e) 0 (λ d v h. h) lacks) in
      sweeps_taken group (λ box. Unit {0}) (IsDoneAt s.parts group e) q s q s r new (edge_decision s.parts e) 0 (sweeps_start group (λ box. Unit {0}) q s known tt) step new_known gone
      (λ before not. done_by p s.parts group e new.now principle (λ d v has left. not (lacks_present p s.parts group new.now e d v left has)))

-- ---- agreement

module _ (group : Group) (s : State) (known : Known s) (is : IsGroup s.parts group) (principle : group.principle ≡ principles.Agreement) (e : Edge) (place : IsPlace s.parts e) (dim : e.dim.0 ≡ first_dim group) (asks : PlaceAsks principles.Agreement group s.now e.mother.0 e.label.0) where
  agreement_takes : (box : List (List Bool)) (d v : ℕ) → LiesIn box s.now → PlaceLacks principles.Agreement s.parts group box e d v → Takes s.parts group box d v
  agreement_takes = place_takes group s known is principles.Agreement tt principle e place dim asks

  agreed_must : Must s.parts s.now e → (box : List (List Bool)) → IsBox (shape s.parts) box → LiesIn box s.now → Contains (must_edges s.parts box (first_dim group)) e
  agreed_must = must_here group s known is principles.Agreement tt principle e place dim asks

  module _ (mother daughter : Slot) (mother_is : decision_of s.parts mother ≡ attr_of_node s.parts group 0 e.mother.0) (daughter_is : decision_of s.parts daughter ≡ attr_of_node s.parts group 1 e.daughter.0) where
    abbrev one : ℕ
    one = attr_of_node s.parts group 0 e.mother.0

    abbrev two : ℕ
    two = attr_of_node s.parts group 1 e.daughter.0

    abbrev AreApart : List (List Bool) → ℕ → ℕ → Type 0
    AreApart box a b = (x : ℕ) → Has box a x → Has box b x → ⊥

    apart_named : AreApart s.now (decision_of s.parts mother) (decision_of s.parts daughter) → AreApart s.now one two
    apart_named apart = subst (λ d. AreApart s.now d two) mother_is (subst (λ d. AreApart s.now (decision_of s.parts mother) d) daughter_is apart)

    together_named : (AreApart s.now (decision_of s.parts mother) (decision_of s.parts daughter) → ⊥) → AreApart s.now one two → ⊥
    together_named together apart = together (subst (λ d. AreApart s.now d (decision_of s.parts daughter)) (sym mother_is) (subst (λ d. AreApart s.now one d) (sym daughter_is) apart))

    -- the ends have no value in common, and the edge goes
    pub agreement_apart : (p r : Progress) (new : State) → AreApart s.now (decision_of s.parts mother) (decision_of s.parts daughter) → ((g : Group) → IsGroup s.parts g → Takes s.parts g s.now (edge_decision s.parts e) 0 → Goes g p s r new) → Known new → (Has new.now (edge_decision s.parts e) 0 → r.dead ≡ true) → Sweeps group (IsDoneAt s.parts group e) p s r new
    agreement_apart p r new apart = place_gone group s known is principles.Agreement tt principle e place dim asks (inl ((refl, refl), apart_named apart)) p r new

    -- the edge may be absent, and the ends have a value in common
    pub agreement_free : (p : Progress) → (AreApart s.now (decision_of s.parts mother) (decision_of s.parts daughter) → ⊥) → (Must s.parts s.now e → ⊥) → Sweeps group (IsDoneAt s.parts group e) p s p s
    agreement_free p together free = sweeps_start group (IsDoneAt s.parts group e) p s known (done_by principles.Agreement s.parts group e s.now principle (λ d v has lacks. elim lacks [
      | inl edge ↦ together_named together edge.1
      | inr value ↦ free ((must_exact s.parts s.now (first_dim group) e known.is_box).0 value.0).1
    ]))

    -- the edge must be: what one end lacks the other loses
    pub mother_takes : Must s.parts s.now e → TakesInside s.parts group s.now (decision_of s.parts mother) (LacksOther (decision_of s.parts daughter))
    mother_takes must box box_is lies v lacks = agreement_takes box (decision_of s.parts mother) v lies (inr (agreed_must must box box_is lies, inl (mother_is, λ has. lacks (subst (λ d. Has box d v) (sym daughter_is) has))))

    pub daughter_takes : Must s.parts s.now e → TakesInside s.parts group s.now (decision_of s.parts daughter) (LacksOther (decision_of s.parts mother))
    daughter_takes must box box_is lies v lacks = agreement_takes box (decision_of s.parts daughter) v lies (inr (agreed_must must box box_is lies, inr (daughter_is, λ has. lacks (subst (λ d. Has box d v) (sym mother_is) has))))

    -- and the same when the mother has lost hers
    pub daughter_later : (p q : Progress) (mid : State) → Sweeps group (NoneLacks (decision_of s.parts mother) (LacksOther (decision_of s.parts daughter))) p s q mid → Must s.parts s.now e → TakesInside mid.parts group mid.now (decision_of mid.parts daughter) (LacksOther (decision_of mid.parts mother))
    daughter_later p q mid a must = subst (λ parts. TakesInside mid.parts group mid.now (decision_of parts daughter) (LacksOther (decision_of parts mother))) (sym a.goes.extends.same)
        (takes_later group p s q mid a.goes a.known (decision_of s.parts daughter) (LacksOther (decision_of s.parts mother)) (daughter_takes must))

    pub agreement_must : (p q r : Progress) (mid new : State) → (AreApart s.now (decision_of s.parts mother) (decision_of s.parts daughter) → ⊥) → Sweeps group (NoneLacks (decision_of s.parts mother) (LacksOther (decision_of s.parts daughter))) p s q mid → Sweeps group (NoneLacks (decision_of mid.parts daughter) (LacksOther (decision_of mid.parts mother))) q mid r new → Sweeps group (IsDoneAt s.parts group e) p s r new
    agreement_must p q r mid new together a b =
        let c = subst (λ parts. Sweeps group (NoneLacks (decision_of parts daughter) (LacksOther (decision_of parts mother))) q mid r new) a.goes.extends.same b in
        let both = sweeps_both group (NoneLacks (decision_of s.parts mother) (LacksOther (decision_of s.parts daughter))) (NoneLacks (decision_of s.parts daughter) (LacksOther (decision_of s.parts mother))) p s q mid r new a c in
        record {
          goes = both.goes;
          known = both.known;
          done = λ quiet.
              let same = (both.goes.quiet quiet).1 in
              let none = both.done quiet in
              done_by principles.Agreement s.parts group e new.now principle (λ d v has lacks. elim lacks [
                | inl edge ↦ together_named together (subst (λ box. AreApart box one two) same edge.1)
                | inr value ↦ elim value.1 [
                  | inl here ↦ none.0 v (subst (λ k. Has new.now k v) (here.0 ∙ sym mother_is) has) (λ there. here.1 (subst (λ k. Has new.now k v) daughter_is there))
                  | inr here ↦ none.1 v (subst (λ k. Has new.now k v) (here.0 ∙ sym daughter_is) has) (λ there. here.1 (subst (λ k. Has new.now k v) mother_is there))
                ]
              ]);
        }

-- ---- government

module _ (group : Group) (s : State) (known : Known s) (is : IsGroup s.parts group) (principle : group.principle ≡ principles.Government) (e : Edge) (place : IsPlace s.parts e) (dim : e.dim.0 ≡ first_dim group) (asks : PlaceAsks principles.Government group s.now e.mother.0 e.label.0) (slot : Slot) (slot_is : decision_of s.parts slot ≡ attr_of_node s.parts group 0 e.daughter.0) where
  abbrev agr : ℕ
  agr = attr_of_node s.parts group 0 e.daughter.0

  abbrev IsRefused : List (List Bool) → ℕ → Type 0
  IsRefused box d = EachEntry box e.mother.0 (λ c. (x : ℕ) → Has box d x → Contains (map_row group e.mother.0 c e.label.0) x → ⊥)

  -- no value is allowed, and the edge goes
  pub government_apart : (p r : Progress) (new : State) → IsRefused s.now (decision_of s.parts slot) → ((g : Group) → IsGroup s.parts g → Takes s.parts g s.now (edge_decision s.parts e) 0 → Goes g p s r new) → Known new → (Has new.now (edge_decision s.parts e) 0 → r.dead ≡ true) → Sweeps group (IsDoneAt s.parts group e) p s r new
  government_apart p r new refused = place_gone group s known is principles.Government tt principle e place dim asks (inl ((refl, refl), subst (λ d. IsRefused s.now d) slot_is refused)) p r new

  pub government_free : (p : Progress) → (IsRefused s.now (decision_of s.parts slot) → ⊥) → (Must s.parts s.now e → ⊥) → Sweeps group (IsDoneAt s.parts group e) p s p s
  government_free p allowed free = sweeps_start group (IsDoneAt s.parts group e) p s known (done_by principles.Government s.parts group e s.now principle (λ d v has lacks. elim lacks [
    | inl edge ↦ allowed (subst (λ k. IsRefused s.now k) (sym slot_is) edge.1)
    | inr value ↦ free ((must_exact s.parts s.now (first_dim group) e known.is_box).0 value.0).1
  ]))

  pub daughter_governed : Must s.parts s.now e → TakesInside s.parts group s.now (decision_of s.parts slot) (LacksEntry group e.mother.0 e.label.0)
  daughter_governed must box box_is lies v lacks = place_takes group s known is principles.Government tt principle e place dim asks box
      (decision_of s.parts slot) v lies (inr (must_here group s known is principles.Government tt principle e place dim asks must box box_is lies, slot_is, lacks))

  pub government_must : (p q : Progress) (new : State) → (IsRefused s.now (decision_of s.parts slot) → ⊥) → Sweeps group (NoneLacks (decision_of s.parts slot) (LacksEntry group e.mother.0 e.label.0)) p s q new → Sweeps group (IsDoneAt s.parts group e) p s q new
  government_must p q new allowed a = record {
    goes = a.goes;
    known = a.known;
    done = λ quiet.
        let same = (a.goes.quiet quiet).1 in
        done_by principles.Government s.parts group e new.now principle (λ d v has lacks. elim lacks [
          | inl edge ↦ allowed (subst (λ k. IsRefused s.now k) (sym slot_is) (subst (λ box. IsRefused box agr) same edge.1))
          | inr value ↦ a.done quiet v (subst (λ k. Has new.now k v) (value.1 ∙ sym slot_is) has) value.2
        ]);
  }

-- ---- agr

module _ (group : Group) (s : State) (known : Known s) (principle : group.principle ≡ principles.Agr) (node : ℕ) (within : node < nodes s.parts) (slot : Slot) (slot_is : decision_of s.parts slot ≡ attr_of_node s.parts group 0 node) where
  agr_takes : (box : List (List Bool)) (d v : ℕ) → AgrValues s.parts group box d v → Takes s.parts group box d v
  agr_takes box d v rule = inr (subst (λ p. TakesBy p s.parts group box d v) (sym principle) rule)

  pub value_takes : TakesInside s.parts group s.now (decision_of s.parts slot) (LacksEntry group node 0)
  value_takes box box_is lies v lacks = agr_takes box (decision_of s.parts slot) v (record { node = node; within = within; lacks = inl (slot_is, lacks) })

  entry_takes : TakesInside s.parts group s.now (entry_decision node) (LacksValue group node (decision_of s.parts slot))
  entry_takes box box_is lies c lacks = agr_takes box (entry_decision node) c (record { node = node; within = within; lacks = inr (refl, subst (λ d. (x : ℕ) → Has box d x → Contains (set_row group node c) x → ⊥) slot_is lacks) })

  pub entry_later : (p q : Progress) (mid : State) → Sweeps group (NoneLacks (decision_of s.parts slot) (LacksEntry group node 0)) p s q mid → TakesInside mid.parts group mid.now (entry_decision node) (LacksValue group node (decision_of mid.parts slot))
  entry_later p q mid a = subst (λ parts. TakesInside mid.parts group mid.now (entry_decision node) (LacksValue group node (decision_of parts slot))) (sym a.goes.extends.same)
      (takes_later group p s q mid a.goes a.known (entry_decision node) (LacksValue group node (decision_of s.parts slot)) entry_takes)

  pub agr_done : (p q r : Progress) (mid new : State) → Sweeps group (NoneLacks (decision_of s.parts slot) (LacksEntry group node 0)) p s q mid → Sweeps group (NoneLacks (entry_decision node) (LacksValue group node (decision_of mid.parts slot))) q mid r new → Sweeps group (IsNodeDone principles.Agr s.parts group node) p s r new
  agr_done p q r mid new a b =
      let c = subst (λ d. Sweeps group (NoneLacks (entry_decision node) (LacksValue group node d)) q mid r new) slot_is (subst (λ parts. Sweeps group (NoneLacks (entry_decision node) (LacksValue group node (decision_of parts slot))) q mid r new) a.goes.extends.same b) in
      sweeps_both group (NoneLacks (attr_of_node s.parts group 0 node) (LacksEntry group node 0)) (NoneLacks (entry_decision node) (LacksValue group node (attr_of_node s.parts group 0 node))) p s q mid r new (subst (λ d. Sweeps group (NoneLacks d (LacksEntry group node 0)) p s q mid) slot_is a) c

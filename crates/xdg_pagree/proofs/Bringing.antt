-- The nodes at which something may be left to take, gathered.
use Rattle.std.proofs.Common.{◌≡◌, ◌≢◌, ℕ, ◌<◌, ◌⊎◌, ◌↔◌, ◌&&◌, ◌||◌, IsTrue, inl, inr, Bool, true, List, [], ◌∷◌, sym, ◌∙◌, subst}
use Rattle.std.specs.Prelude.{slice_index_or}
use Rattle.std.proofs.lemmas.Bool.{cases_eq, false≢true}
use Rattle.xdg_problem.specs.declared.analysis.Edge.{Edge}
use Rattle.xdg_problem.specs.declared.parts.Parts.{Parts}
use Rattle.xdg_problem.specs.Boxes.{May}
use Rattle.xdg_problem.specs.Places.{edge, nodes}
use Rattle.xdg_problem.proofs.PlaceOrder.{is_place}
use Rattle.xdg_rules.specs.Rules.{IsPlaceOn}
use Rattle.xdg_propcore.specs.declared.touched.Touched.{Touched}
use Rattle.xdg_graph.specs.Every.{IsEvery}
use Rattle.xdg_pagree.specs.Untouched.{AreMothersOf, HasMothers, HasOwn}
use Rattle.xdg_facts.specs.Rises.{has}
use Rattle.xdg_facts.proofs.Sets.{both, either, not_left}

-- ---- those that have lost something themselves

pub own_found : (parts : Parts) (t : Touched) (touched sentence own : List ℕ) → ((v : ℕ) → has touched v ≡ (has t.entries v || has t.attrs v)) → IsEvery (nodes parts) sentence → ((v : ℕ) → has own v ≡ (has touched v && has sentence v)) → HasOwn parts t own
own_found parts t touched sentence own touched_is every own_is = record {
  each = λ v there. (every v).0 ((both (has touched v) (has sentence v)).0 (sym (own_is v) ∙ there)).1;
  others = λ v within out.
      let lost : ((has t.entries v ≡ true) ⊎ (has t.attrs v ≡ true)) → ⊥ = (λ h. out (own_is v ∙ (both (has touched v) (has sentence v)).1 (touched_is v ∙ (either (has t.entries v) (has t.attrs v)).1 h, (every v).1 within))) in
      (λ h. lost (inl h), λ h. lost (inr h));
}

-- ---- the mothers of some daughters

module _ (parts : Parts) (box : List (List Bool)) (dim label : ℕ) (first : List ℕ) where
  -- those of the first daughters that aren't still to come
  pub record Brings (left found : List ℕ) : Type 0 where
    pub each : (u : ℕ) → has found u ≡ true → u < nodes parts
    pub all : (e : Edge) → IsPlaceOn parts dim e → e.label.0 ≡ label → has first e.daughter.0 ≡ true → (has left e.daughter.0 ≡ true → ⊥) → May parts box e → has found e.mother.0 ≡ true

  pub brings_start : (found : List ℕ) → found ≡ [] → Brings first found
  brings_start found none = record {
    each = λ u there. absurd (false≢true (subst (λ s. has s u ≡ true) none there));
    all = λ e on label_is there gone may. absurd (gone there);
  }

  pub brings_next : (left rest found more new : List ℕ) (v : ℕ) → left ≡ v ∷ rest → ((u : ℕ) → IsTrue (has more u) ↔ ((u < nodes parts) × (u ≢ v) × May parts box (edge dim u label v))) → ((u : ℕ) → has new u ≡ (has found u || has more u)) → Brings left found → Brings rest new
  brings_next left rest found more new v is exact new_is before = record {
    each = λ u there. elim ((either (has found u) (has more u)).0 (sym (new_is u) ∙ there)) [
      | inl old ↦ before.each u old
      | inr here ↦ ((exact u).0 here).0
    ];
    all = λ e on label_is there gone may.
        let u : ℕ = e.mother.0 in
        let place = is_place parts e on.0 in
        new_is u ∙ (either (has found u) (has more u)).1 (elim (cases_eq e.daughter.0 v) [
          | inl same ↦ inr ((exact u).1 (
            place.mother,
            λ alike. place.differ (alike ∙ sym same),
            subst (λ k. May parts box (edge dim u label k)) same (subst (λ k. May parts box (edge dim u k e.daughter.0)) label_is (subst (λ k. May parts box (edge k u e.label.0 e.daughter.0)) on.1 may)),
          ))
          | inr other ↦ inl (before.all e on label_is there (not_left left rest v e.daughter.0 is other gone) may)
        ]);
  }

  pub brings_end : (left found : List ℕ) → left ≡ [] → Brings left found → AreMothersOf parts box dim label first found
  brings_end left found empty all = record {
    each = all.each;
    all = λ e on label_is there may. all.all e on label_is there (λ h. false≢true (subst (λ s. has s e.daughter.0 ≡ true) empty h)) may;
  }

-- ---- both together

pub mothers_found : (parts : Parts) (box : List (List Bool)) (t : Touched) (dim label : ℕ) (touched row all sentence own daughters mothers set : List ℕ)
    → ((v : ℕ) → has touched v ≡ (has t.entries v || has t.attrs v)) → row ≡ slice_index_or t.out label [] → ((v : ℕ) → has all v ≡ (has touched v || has row v))
    → IsEvery (nodes parts) sentence → ((v : ℕ) → has own v ≡ (has all v && has sentence v)) → ((v : ℕ) → has daughters v ≡ (has t.attrs v && has sentence v))
    → AreMothersOf parts box dim label daughters mothers → ((v : ℕ) → has set v ≡ (has own v || has mothers v)) → HasMothers parts box t dim label set
mothers_found parts box t dim label touched row all sentence own daughters mothers set touched_is row_is all_is every own_is daughters_are brought set_is = record {
  each = λ u there. elim ((either (has own u) (has mothers u)).0 (sym (set_is u) ∙ there)) [
    | inl mine ↦ (every u).0 ((both (has all u) (has sentence u)).0 (sym (own_is u) ∙ mine)).1
    | inr other ↦ brought.each u other
  ];
  others = λ e on label_is out may.
      let u : ℕ = e.mother.0 in
      let v : ℕ = e.daughter.0 in
      let place = is_place parts e on.0 in
      let none : has all u ≡ true → ⊥ = (λ h. out (set_is u ∙ (either (has own u) (has mothers u)).1 (inl (own_is u ∙ (both (has all u) (has sentence u)).1 (h, (every u).1 place.mother))))) in
      let own_none : has touched u ≡ true → ⊥ = (λ h. none (all_is u ∙ (either (has touched u) (has row u)).1 (inl h))) in (
        (
          (
            λ lost. own_none (touched_is u ∙ (either (has t.entries u) (has t.attrs u)).1 (inl lost)),
            λ lost. own_none (touched_is u ∙ (either (has t.entries u) (has t.attrs u)).1 (inr lost)),
          ),
          λ lost. none (all_is u ∙ (either (has touched u) (has row u)).1 (inr (subst (λ s. has s u ≡ true) (sym row_is) (subst (λ l. has (slice_index_or t.out l []) u ≡ true) label_is lost)))),
        ),
        λ lost. out (set_is u ∙ (either (has own u) (has mothers u)).1 (inr (brought.all e on label_is (daughters_are v ∙ (both (has t.attrs v) (has sentence v)).1 (lost, (every v).1 place.daughter)) may))),
      );
}

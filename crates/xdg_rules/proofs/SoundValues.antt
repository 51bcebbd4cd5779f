-- In a box that agrees with a whole vector the rules of agr, agreement, government and order take nothing that remains, if
-- the conditions hold.
use Rattle.std.proofs.Common.{◌≡◌, ℕ, ◌<◌, inl, inr, Bool, true, List, [], ◌∷◌, length, refl, sym, ◌∙◌, arith, subst}
use Rattle.std.specs.Prelude.{Contains, slice_index}
use Rattle.xdg_problem.specs.declared.analysis.Edge.{Edge}
use Rattle.xdg_problem.specs.declared.conditions.Condition.{Condition}
use Rattle.xdg_problem.specs.declared.conditions.Condition.TheVariants as conditions
use Rattle.xdg_problem.specs.declared.parts.Group.{Group}
use Rattle.xdg_problem.specs.declared.parts.Parts.{Parts}
use Rattle.xdg_problem.specs.Arguments.{first_dim, attr_of, attr_place, order_of, truth_of}
use Rattle.xdg_problem.specs.Asking.{IsInItem}
use Rattle.xdg_problem.specs.Features.{set_row, map_row}
use Rattle.xdg_problem.specs.Paths.{edges_on, IsDaughterBy}
use Rattle.xdg_problem.specs.Places.{nodes, places}
use Rattle.xdg_problem.specs.Problems.{IsProblem, IsGroup}
use Rattle.xdg_problem.specs.Vectors.{shape, entry_places, entries_at, edges_in, analysis_of}
use Rattle.xdg_facts.proofs.InOrder.{Ordered, ordered_from_pairs}
use Rattle.xdg_facts.proofs.Each.{each_contained}
use Rattle.xdg_problem.proofs.PlaceOrder.{is_place}
use Rattle.xdg_problem.specs.Boxes.{Has, IsBox, Agrees}
use Rattle.xdg_rules.specs.Rules.{AgrValues, AgreementValues, GovernmentValues, ComesBefore, DaughterOrder, HeadOffends, AboutHead, OfHead, attr_of_node}
use Rattle.xdg_rules.proofs.Whole.{daughter_by, must_stands, present, entry_is, entry_has, attr_is, attr_has}
use Rattle.xdg_rules.proofs.SoundTree.{Kept}
use Rattle.xdg_rules.proofs.Shrinking.{must_is}
use Rattle.xdg_rules.proofs.Counting.{label_on}
use Rattle.xdg_problem.specs.Principles.{attr_arguments}

-- what holds of each label and each later one holds of two that come so in the order
ordered_before : (R : ℕ → ℕ → Type 0) (order : List ℕ) (l m : ℕ) → Ordered R order → ComesBefore order l m → R l m
ordered_before R [] l m ordered comes = absurd comes
ordered_before R (label ∷ order) l m ordered (inl first) = subst (λ k. R k m) first.0 (each_contained (R label) order m ordered.0 first.1)
ordered_before R (label ∷ order) l m ordered (inr later) = ordered_before R order l m ordered.1 later

module _ (parts : Parts) (group : Group) (group_is : IsGroup parts group) (box : List (List Bool)) (x : List ℕ) (problem : IsProblem parts) (is : IsBox (shape parts) box) (whole : length x ≡ length (shape parts)) (agrees : Agrees box x) where
  abbrev one : ℕ
  one = first_dim group

  abbrev on : List Edge
  on = edges_on one (edges_in parts x)

  abbrev Holds : Condition → Type 0
  Holds condition = Kept parts group box x problem is whole agrees condition

  abbrev entry : ℕ → ℕ
  entry node = slice_index (entry_places parts.candidates (entries_at parts.candidates x)) node

  abbrev value : ℕ → ℕ → ℕ
  value argument node = slice_index (analysis_of parts x).attrs (attr_place parts one node (attr_of group argument))

  pub agr_values : 0 < attr_arguments group.principle → Holds conditions.Agr → (d v : ℕ) → Has box d v → AgrValues parts group box d v → ⊥
  agr_values known kept d v has rule =
      let node : ℕ = rule.node in
      let asked : Contains (set_row group node (entry node)) (value 0 node) = kept (node ∷ []) (rule.within, tt) in
      elim rule.lacks [
        | inl agr ↦ agr.1 (entry node) (entry_has parts box x problem is whole agrees node rule.within) (subst (Contains (set_row group node (entry node))) (sym (attr_is parts box x problem is whole agrees group group_is 0 known node rule.within v (subst (λ k. Has box k v) agr.0 has))) asked)
        | inr agrs ↦ agrs.1 (value 0 node) (attr_has parts box x problem is whole agrees group group_is 0 known node rule.within)
            (subst (λ c. Contains (set_row group node c) (value 0 node)) (sym (entry_is parts box x problem is whole agrees node v rule.within (subst (λ k. Has box k v) agrs.0 has))) asked)
      ]

  pub agreement_values : 1 < attr_arguments group.principle → Holds conditions.Agree → (d v : ℕ) → Has box d v → AgreementValues parts group box d v → ⊥
  agreement_values known kept d v has rule =
      let place = is_place parts rule.place rule.is.0 in
      let u : ℕ = rule.place.mother.0 in
      let w : ℕ = rule.place.daughter.0 in
      let first : 0 < attr_arguments group.principle = omega (arith, known) in
      let asks = rule.asks (entry u) (entry_has parts box x problem is whole agrees u place.mother) in
      let one_has = attr_has parts box x problem is whole agrees group group_is 0 first u place.mother in
      let two_has = attr_has parts box x problem is whole agrees group group_is 1 known w place.daughter in
      let agree : Contains on rule.place → value 0 u ≡ value 1 w = λ stands. kept (u ∷ rule.place.label.0 ∷ w ∷ []) (place.mother, (label_on parts one rule.place place rule.is.1, (place.daughter, tt)))
      (daughter_by on rule.place stands) asks in
      elim rule.lacks [
        | inl edge ↦ (let same = agree (present parts box x problem is whole agrees one rule.place d v rule.is edge.0 has) in edge.1 (value 0 u) one_has (subst (Has box (attr_of_node parts group 1 w)) (sym same) two_has))
        | inr agr ↦ (let same = agree (must_stands parts box x problem is whole agrees one rule.place agr.0) in elim agr.1 [
          | inl mother ↦ (let v_is = attr_is parts box x problem is whole agrees group group_is 0 first u place.mother v (subst (λ k. Has box k v) mother.0 has) in mother.1 (subst (Has box (attr_of_node parts group 1 w)) (sym (v_is ∙ same)) two_has))
          | inr daughter ↦ (let v_is = attr_is parts box x problem is whole agrees group group_is 1 known w place.daughter v (subst (λ k. Has box k v) daughter.0 has) in daughter.1 (subst (Has box (attr_of_node parts group 0 u)) (same ∙ sym v_is) one_has))
        ])
      ]

  pub government_values : 0 < attr_arguments group.principle → Holds conditions.Govern → (d v : ℕ) → Has box d v → GovernmentValues parts group box d v → ⊥
  government_values known kept d v has rule =
      let place = is_place parts rule.place rule.is.0 in
      let u : ℕ = rule.place.mother.0 in
      let l : ℕ = rule.place.label.0 in
      let w : ℕ = rule.place.daughter.0 in
      let remains = entry_has parts box x problem is whole agrees u place.mother in
      let value_has = attr_has parts box x problem is whole agrees group group_is 0 known w place.daughter in
      let governed : Contains on rule.place → Contains (map_row group u (entry u) l) (value 0 w) = λ stands. kept (u ∷ l ∷ w ∷ []) (place.mother, (label_on parts one rule.place place rule.is.1, (place.daughter, tt)))
      (daughter_by on rule.place stands) (rule.governs (entry u) remains) in
      elim rule.lacks [
        | inl edge ↦ edge.1 (entry u) remains (value 0 w) value_has (governed (present parts box x problem is whole agrees one rule.place d v rule.is edge.0 has))
        | inr agr ↦ (let v_is = attr_is parts box x problem is whole agrees group group_is 0 known w place.daughter v (subst (λ k. Has box k v) agr.1 has) in agr.2 (entry u) remains
            (subst (Contains (map_row group u (entry u) l)) (sym v_is) (governed (must_stands parts box x problem is whole agrees one rule.place agr.0))))
      ]

  abbrev item : ℕ → ℕ → ℕ → Type 0
  item u label y = IsInItem on (truth_of group.truths 0 ≡ true) (value 0 u) u label y

  -- where one label comes before another, what stands in an item of the first stands to the left of what stands in one of the second
  in_order : Holds conditions.Order → (u a b : ℕ) → u < nodes parts → a < nodes parts → b < nodes parts → (l m : ℕ) → ComesBefore (order_of group) l m → item u l a → item u m b → a < b
  in_order kept u a b us as_ bs l m comes = ordered_before (λ earlier later. item u earlier a → item u later b → a < b) (order_of group) l m (ordered_from_pairs (λ earlier later. item u earlier a → item u later b → a < b) (order_of group) (kept (u ∷ a ∷ b ∷ []) (us, (as_, (bs, tt))))) comes

  pub daughter_order : Holds conditions.Order → (d v : ℕ) → Has box d v → DaughterOrder parts group box d v → ⊥
  daughter_order kept d v has rule =
      let place = is_place parts rule.place rule.is.0 in
      let other = is_place parts rule.other (must_is parts box one rule.other rule.must).place in
      let u : ℕ = rule.place.mother.0 in
      let here : item u rule.place.label.0 rule.place.daughter.0 = inr (inl (daughter_by on rule.place (present parts box x problem is whole agrees one rule.place d v rule.is rule.says has))) in
      let there : item u rule.other.label.0 rule.other.daughter.0 = inr (inl (subst (λ k. IsDaughterBy on k rule.other.label.0 rule.other.daughter.0) (sym rule.mother)
      (daughter_by on rule.other (must_stands parts box x problem is whole agrees one rule.other rule.must)))) in
      elim rule.wrong [
        | inl after ↦ (let left = in_order kept u rule.other.daughter.0 rule.place.daughter.0 place.mother other.daughter place.daughter rule.other.label.0 rule.place.label.0 after.0 there here in let not_left = after.1 in omega (arith, left, not_left))
        | inr before ↦ (let left = in_order kept u rule.place.daughter.0 rule.other.daughter.0 place.mother place.daughter other.daughter rule.place.label.0 rule.other.label.0 before.0 here there in let not_left = before.1 in omega (arith, left, not_left))
      ]

  -- no edge of the analysis stands on the wrong side of its mother
  head_ordered : Holds conditions.Order → (e : Edge) → Contains (places parts) e → Contains on e → HeadOffends group (value 0 e.mother.0) e → ⊥
  head_ordered kept e placed stands offends =
      let place = is_place parts e placed in
      let u : ℕ = e.mother.0 in
      let here : item u e.label.0 e.daughter.0 = inr (inl (daughter_by on e stands)) in
      let itself : item u (value 0 u) u = inl (refl, refl) in
      elim offends [
        | inl after ↦ (let left = in_order kept u e.daughter.0 u place.mother place.daughter place.mother e.label.0 (value 0 u) after.0 here itself in let right = after.1 in omega (arith, left, right))
        | inr before ↦ (let left = in_order kept u u e.daughter.0 place.mother place.mother place.daughter (value 0 u) e.label.0 before.0 itself here in let right = before.1 in omega (arith, left, right))
      ]

  pub about_head : 0 < attr_arguments group.principle → Holds conditions.Order → (d v : ℕ) → Has box d v → AboutHead parts group box d v → ⊥
  about_head known kept d v has rule =
      let place = is_place parts rule.place rule.is.0 in
      let own = attr_is parts box x problem is whole agrees group group_is 0 known rule.place.mother.0 place.mother rule.own rule.remains in
      head_ordered kept rule.place rule.is.0 (present parts box x problem is whole agrees one rule.place d v rule.is rule.says has) (subst (λ k. HeadOffends group k rule.place) own rule.offends)

  pub of_head : 0 < attr_arguments group.principle → Holds conditions.Order → (d v : ℕ) → Has box d v → OfHead parts group box d v → ⊥
  of_head known kept d v has rule =
      let placed = (must_is parts box one rule.place rule.must).place in
      let own = attr_is parts box x problem is whole agrees group group_is 0 known rule.place.mother.0 (is_place parts rule.place placed).mother v (subst (λ k. Has box k v) rule.is has) in
      head_ordered kept rule.place placed (must_stands parts box x problem is whole agrees one rule.place rule.must) (subst (λ k. HeadOffends group k rule.place) own rule.offends)

-- How many edges lead into a node, by their labels.
use Rattle.std.proofs.Common.{◌≡◌, ◌≢◌, ℕ, ◌<◌, ◌≤◌, ◌*◌, ◌%◌, ◌^◌, ◌↔◌, List, inl, inr, refl, sym, ◌∙◌, ap, ap₂, subst, arith}
use lib.Bits.{bit_and}
use Rattle.std.specs.Prelude.{Contains}
use Rattle.std.specs.Int.{bit_at, bit_not, trailing_zeros, w32}
use Rattle.std.proofs.lemmas.Bool.{cases_eq, cases_lt}
use Rattle.std.proofs.lemmas.Nat.{and_le_l}
use Rattle.std.proofs.lemmas.Nat.Bits.{bit_at-zero, bit_at_above, bit_at_clear_other, bit_at_clear_same}
use Rattle.xdg_problem.specs.declared.analysis.Edge.{Edge}
use Rattle.xdg_problem.specs.declared.parts.Parts.{Parts}
use Rattle.xdg_problem.specs.Analyses.{IsPlace}
use Rattle.xdg_problem.specs.Places.{edge}
use Rattle.xdg_problem.proofs.Edges.{edge_equal}
use Rattle.xdg_problem.proofs.PlaceOrder.{is_place, place_is}
use Rattle.xdg_rules.specs.Rules.{IsPlaceOn}
use Rattle.xdg_store.specs.Labels.{AreLabels, LeadsInto}
use Rattle.xdg_store.specs.declared.labels.Labels.{Labels}
use Rattle.xdg_pgraph.specs.declared.entered.Count.{Count}
use Rattle.xdg_pgraph.specs.declared.entered.Count.TheVariants as counts
use Rattle.xdg_pgraph.specs.Incomings.{HaveLabels, IsCount}
use Rattle.xdg_pgraph.specs.Seeking.{Into}
use Rattle.xdg_facts.proofs.Bits.{both_bits, lowest_label_bit, no_bit}

-- ---- bits

module _ (n first : ℕ) (small : n < 2 ^ 32) (within : first < 32) where
  abbrev others : ℕ
  others = bit_and n (bit_not w32 (1 * 2 ^ first % 2 ^ 32))

  -- another bit than that
  pub other_bit : (others ≡ 0 → ⊥) → (l : ℕ) × (l ≢ first) × (bit_at n l ≡ 1)
  other_bit some =
      let fewer : others ≤ n = and_le_l n (bit_not w32 (1 * 2 ^ first % 2 ^ 32)) in
      let found = lowest_label_bit others some (omega (arith, fewer, small)) in
      let l : ℕ = trailing_zeros w32 others in (
        l,
        λ same. (let gone : bit_at others first ≡ 0 = bit_at_clear_same w32 n first within in let here : bit_at others first ≡ 1 = subst (λ k. bit_at others k ≡ 1) same found.1 in omega (arith, gone, here)),
        ((both_bits n (bit_not w32 (1 * 2 ^ first % 2 ^ 32)) l).0 found.1).0,
      )

  -- there is none
  pub one_bit : others ≡ 0 → (l : ℕ) → l ≢ first → bit_at n l ≡ 1 → ⊥
  one_bit none l other is = elim (cases_lt l 32) [
    | inl low ↦ (let kept : bit_at others l ≡ bit_at n l = bit_at_clear_other w32 n first within l low other in let zero : bit_at others l ≡ 0 = ap (λ k. bit_at k l) none ∙ bit_at-zero l in omega (arith, kept, zero, is))
    | inr high ↦ (let zero : bit_at n l ≡ 0 = bit_at_above n 32 l small high in omega (arith, zero, is))
  ]

-- ---- edges

-- the edges of a list are those places of a dimension of which something holds
module _ (edges : List Edge) (parts : Parts) (P : Edge → Type 0) (dim w : ℕ) (labels : Labels) (exact : (e : Edge) → Contains edges e ↔ (IsPlaceOn parts dim e × P e)) (are : AreLabels parts P dim w labels) where
  those : (l m : ℕ) → LeadsInto parts P dim w l m → Into edges w (edge dim m l w)
  those l m leads = ((exact (edge dim m l w)).1 ((place_is parts (edge dim m l w) leads.0, refl), leads.1), refl)

  this : (e : Edge) → Into edges w e → e ≡ edge dim e.mother.0 e.label.0 w
  this e i = edge_equal e (edge dim e.mother.0 e.label.0 w) ((exact e).0 i.0).0.1 refl refl i.1

  leads_in : (e : Edge) → Into edges w e → LeadsInto parts P dim w e.label.0 e.mother.0
  leads_in e i = (let is = (exact e).0 i.0 in (subst (IsPlace parts) (this e i) (is_place parts e is.0.0), subst P (this e i) is.1))

  marked : (e : Edge) → Into edges w e → bit_at labels.some e.label.0 ≡ 1
  marked e i = (are e.label.0).some.1 (e.mother.0, leads_in e i)

  only : (l m : ℕ) → LeadsInto parts P dim w l m → ((k : ℕ) → k ≢ l → bit_at labels.some k ≡ 1 → ⊥) → labels.more ≡ 0 → (f : Edge) → Into edges w f → edge dim m l w ≡ f
  only l m leads alone none f i =
      let at : f.label.0 ≡ l = elim (cases_eq f.label.0 l) [ inl same ↦ same | inr other ↦ absurd (alone f.label.0 other (marked f i)) ] in
      elim (cases_eq m f.mother.0) [
        | inl same ↦ ap₂ (λ u k. edge dim u k w) same (sym at) ∙ sym (this f i)
        | inr differ ↦ absurd (no_bit labels.more l none ((are l).more.1 (m, f.mother.0, differ, leads, subst (λ k. LeadsInto parts P dim w k f.mother.0) at (leads_in f i))))
      ]

  -- two mothers, or two labels, are two edges
  pub into_counted : (count : Count) → HaveLabels labels count → IsCount (Into edges w) count
  into_counted counts.Nothing none = λ e i. no_bit labels.some e.label.0 none (marked e i)
  into_counted counts.One (l, h, alone, none) = (let x = (are l).some.0 h in (edge dim x.0 l w, those l x.0 x.1, only l x.0 x.1 alone none))
  into_counted counts.More (inl (l, h)) = (let x = (are l).more.0 h in (edge dim x.0 l w, edge dim x.1 l w, those l x.0 x.3, those l x.1 x.4, λ same. x.2 (ap (λ (e : Edge). e.mother.0) same)))
  into_counted counts.More (inr (l, k, differ, h, g)) =
      let x = (are l).some.0 h in
      let y = (are k).some.0 g in
      (edge dim x.0 l w, edge dim y.0 k w, those l x.0 x.1, those k y.0 y.1, λ same. differ (sym (ap (λ (e : Edge). e.label.0) same)))

-- What holds while those are woken whose wake set has a kind of values that were lost.
use Rattle.std.proofs.Common.{◌≡◌, ◌≢◌, ℕ, ◌<◌, ◌+◌, inl, inr, Bool, true, false, List, length, get_or, set, map, not, ap, sym, ◌∙◌, arith, subst}
use Rattle.std.specs.Prelude.{◌==◌}
use lib.Bits.{bit_and}
use Rattle.std.proofs.lemmas.Bool.{cases_eq, eqb-false, eqb-true, not-true, not-false}
use Rattle.std.proofs.lemmas.List.{length-set, get_or-map, get_or-set_same, get_or-set_other}
use Rattle.xdg_propcore.specs.declared.wake.Wake.{Wake}
use Rattle.xdg_propcore.specs.Flags.{IsOn}

-- of the first wake sets, so many, those that share a kind with the lost ones are awake, and no other was woken
pub record Woken (sets : List ℕ) (lost : ℕ) (old now : List Bool) (k : ℕ) : Type 0 where
  pub kept : (at : ℕ) → IsOn old at → IsOn now at
  pub woken : (at : ℕ) → at < k → bit_and (get_or sets at 0) lost ≢ 0 → IsOn now at
  pub only : (at : ℕ) → IsOn now at → (IsOn old at → ⊥) → bit_and (get_or sets at 0) lost ≢ 0
  pub same : length now ≡ length old

pub woken_hit : (sets : List ℕ) (lost : ℕ) (old now next : List Bool) (k : ℕ) → Woken sets lost old now k → k < length now → bit_and (get_or sets k 0) lost ≢ 0 → next ≡ set now k true → Woken sets lost old next (k + 1)
woken_hit sets lost old now next k w within hit is =
    let here : IsOn next k = subst (λ z. IsOn z k) (sym is) (get_or-set_same now k true false within) in
    let other : (at : ℕ) → at ≢ k → get_or next at false ≡ get_or now at false = λ at n. ap (λ z. get_or z at false) is ∙ get_or-set_other now k at true false n in
    let stays : (at : ℕ) → IsOn now at → IsOn next at = λ at h. elim (cases_eq k at) [ inl q ↦ subst (IsOn next) q here | inr n ↦ other at (λ s. n (sym s)) ∙ h ] in
    record {
      kept = λ at h. stays at (w.kept at h);
      woken = λ at l m. elim (cases_eq k at) [ inl q ↦ subst (IsOn next) q here | inr n ↦ stays at (w.woken at (omega (arith, l, n)) m) ];
      only = λ at h m. elim (cases_eq k at) [
        | inl q ↦ subst (λ p. bit_and (get_or sets p 0) lost ≢ 0) q hit
        | inr n ↦ w.only at (sym (other at (λ s. n (sym s))) ∙ h) m
      ];
      same = ap length is ∙ length-set now k true ∙ w.same;
    }

pub woken_miss : (sets : List ℕ) (lost : ℕ) (old now next : List Bool) (k : ℕ) → Woken sets lost old now k → bit_and (get_or sets k 0) lost ≡ 0 → next ≡ now → Woken sets lost old next (k + 1)
woken_miss sets lost old now next k w miss is = subst (λ z. Woken sets lost old z (k + 1)) (sym is) (record {
  kept = w.kept;
  woken = λ at l m. elim (cases_eq k at) [
    | inl q ↦ absurd (m (subst (λ p. bit_and (get_or sets p 0) lost ≡ 0) q miss))
    | inr n ↦ w.woken at (omega (arith, l, n)) m
  ];
  only = w.only;
  same = w.same;
})

-- ---- what the code asks

set_at : (wakes : List Wake) (k : ℕ) (d : Wake) → k < length wakes → get_or (map (λ w. w.0) wakes) k 0 ≡ (get_or wakes k d).0
set_at wakes k d l = get_or-map (λ w. w.0) wakes k d 0 l

pub shares : (wakes : List Wake) (lost k : ℕ) (d : Wake) (result : Bool) → k < length wakes → result ≡ not (bit_and (get_or wakes k d).0 lost == 0) → result ≡ true → bit_and (get_or (map (λ w. w.0) wakes) k 0) lost ≢ 0
shares wakes lost k d result l is e z = eqb-false (bit_and (get_or wakes k d).0 lost) 0 (not-true (bit_and (get_or wakes k d).0 lost == 0) (sym is ∙ e)) (ap (λ s. bit_and s lost) (sym (set_at wakes k d l)) ∙ z)

pub shares_none : (wakes : List Wake) (lost k : ℕ) (d : Wake) (result : Bool) → k < length wakes → result ≡ not (bit_and (get_or wakes k d).0 lost == 0) → result ≡ false → bit_and (get_or (map (λ w. w.0) wakes) k 0) lost ≡ 0
shares_none wakes lost k d result l is e = ap (λ s. bit_and s lost) (set_at wakes k d l) ∙ eqb-true (bit_and (get_or wakes k d).0 lost) 0 (not-false (bit_and (get_or wakes k d).0 lost == 0) (sym is ∙ e))

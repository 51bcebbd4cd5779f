-- What stands in a set after a call, and when the set stays as it was.
use Rattle.std.proofs.Common.{◌≡◌, ◌↔◌, ℕ, ◌<◌, ◌≤◌, List, refl, ap, ap₂, sym, ◌∙◌, arith, inl, inr}
use Rattle.std.specs.Prelude.{Bool, true, false, not, ◌&&◌, ◌||◌, ◌==◌, nat_lt}
use Prim.Native.Nat.{min, max}
use Rattle.std.proofs.lemmas.Bool.{cases_eq, eq-eqb, ne_eqb, le-ltb}
use Rattle.xdg_nodeset.specs.Nodes.{IsNodes, with_node, without, union, meet, minus, between}
use Rattle.xdg_facts.proofs.Truths.{and_false}
use Rattle.xdg_facts.specs.Rises.{has}
use Rattle.xdg_facts.proofs.Rising.{numbers_agree, has_of, has_beyond, has_exact}

-- ---- the call leaves the set as it was exactly where the node stood there, or did not stand there

pub with_same : (s : List ℕ) (n : ℕ) → IsNodes s → n < 128 → (not (has s n) ≡ false) ↔ (with_node s n ≡ s)
with_same s n are within = (
  λ e. numbers_agree 128 (λ m. (m == n) || has s m) (has s) (λ m _. elim (cases_eq m n) [
    | inl same ↦ ap (λ t. t || has s m) (eq-eqb m n same) ∙ sym (ap (has s) same ∙ not_not (has s n) e)
    | inr other ↦ ap (λ t. t || has s m) (ne_eqb m n other)
  ]) ∙ sym are.whole,
  λ e. ap not (sym (ap (λ z. has z n) e) ∙ has_of 128 (λ m. (m == n) || has s m) n within ∙ ap (λ t. t || has s n) (eq-eqb n n refl)),
)
  where
    not_not : (t : Bool) → not t ≡ false → t ≡ true
    not_not true e = refl
    not_not false e = sym e

pub without_same : (s : List ℕ) (n : ℕ) → IsNodes s → n < 128 → (has s n ≡ false) ↔ (without s n ≡ s)
without_same s n are within = (
  λ e. numbers_agree 128 (λ m. not (m == n) && has s m) (has s) (λ m _. elim (cases_eq m n) [
    | inl same ↦ ap (λ t. not t && has s m) (eq-eqb m n same) ∙ sym (ap (has s) same ∙ e)
    | inr other ↦ ap (λ t. not t && has s m) (ne_eqb m n other)
  ]) ∙ sym are.whole,
  λ e. sym (ap (λ z. has z n) e) ∙ has_of 128 (λ m. not (m == n) && has s m) n within ∙ ap (λ t. not t && has s n) (eq-eqb n n refl),
)

-- ---- what stands in the set

no_more : (s : List ℕ) → IsNodes s → (n : ℕ) → 128 ≤ n → has s n ≡ false
no_more s are n above = ap (λ z. has z n) are.whole ∙ has_beyond 128 (has s) n above

pub with_has : (s : List ℕ) (n : ℕ) → IsNodes s → n < 128 → (m : ℕ) → has (with_node s n) m ≡ ((m == n) || has s m)
with_has s n are within = has_exact 128 (λ m. (m == n) || has s m) (λ m above. ap₂ (λ x y. x || y) (ne_eqb m n (λ e. omega (arith, e, above, within))) (no_more s are m above))

pub without_has : (s : List ℕ) (n : ℕ) → IsNodes s → (m : ℕ) → has (without s n) m ≡ (not (m == n) && has s m)
without_has s n are = has_exact 128 (λ m. not (m == n) && has s m) (λ m above. ap (λ y. not (m == n) && y) (no_more s are m above) ∙ and_false (not (m == n)))

pub union_has : (s t : List ℕ) → IsNodes s → IsNodes t → (n : ℕ) → has (union s t) n ≡ (has s n || has t n)
union_has s t are are_too = has_exact 128 (λ n. has s n || has t n) (λ n above. ap₂ (λ x y. x || y) (no_more s are n above) (no_more t are_too n above))

pub meet_has : (s t : List ℕ) → IsNodes s → (n : ℕ) → has (meet s t) n ≡ (has s n && has t n)
meet_has s t are = has_exact 128 (λ n. has s n && has t n) (λ n above. ap (λ x. x && has t n) (no_more s are n above))

pub minus_has : (s t : List ℕ) → IsNodes s → (n : ℕ) → has (minus s t) n ≡ (has s n && not (has t n))
minus_has s t are = has_exact 128 (λ n. has s n && not (has t n)) (λ n above. ap (λ x. x && not (has t n)) (no_more s are n above))

pub between_has : (a b : ℕ) → a < 128 → b < 128 → (n : ℕ) → has (between a b) n ≡ (nat_lt (min a b) n && nat_lt n (max a b))
between_has a b h k = has_exact 128 (λ n. nat_lt (min a b) n && nat_lt n (max a b)) (λ n above.
    ap (λ y. nat_lt (min a b) n && y) (le-ltb n (max a b) (omega (arith, h, k, above))) ∙ and_false (nat_lt (min a b) n))

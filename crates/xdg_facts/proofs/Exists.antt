-- A decided predicate has a listing from any start: what it holds of among all prefixes.
use Rattle.std.proofs.Common.{◌≡◌, ℕ, ◌<◌, ◌≤◌, ◌+◌, ◌⊎◌, inl, inr, List, [], ◌∷◌, ◌++◌, refl, sym, arith, subst, zero, suc, Bool, true, false, map}
use Rattle.std.specs.Prelude.{filter, ◌↔◌}
use Rattle.std.specs.List.{AllByRecursion}
use Rattle.std.proofs.lemmas.Bool.{cases_eq, cases_lt}
use Rattle.xdg_facts.specs.Order.{Less}
use Rattle.xdg_facts.specs.Fits.{Fits}
use Rattle.xdg_facts.specs.Listing.{RisesFrom, IsListing, HasOneListing}
use Rattle.xdg_facts.specs.Prefixes.{from_value, prefixes}
use Rattle.xdg_facts.proofs.Ordered.{less_or, not_less, some_above}
use Rattle.xdg_facts.proofs.Unique.{listing_unique}
use Rattle.xdg_facts.proofs.Wholes.{filter_rises, filter_each}
use Rattle.xdg_facts.proofs.Truths.{either}
use Rattle.xdg_facts.proofs.Each.{each_append, each_weaker}
use Rattle.xdg_facts.proofs.In.{in_left, in_right, map_in, filter_in}
use Rattle.xdg_facts.specs.Membership.{In}

pub rises_append : (a c : List ℕ) (xs ys : List (List ℕ)) → Less a c → AllByRecursion (λ b. Less b c) xs → ((b : List ℕ) → Less b c → RisesFrom b ys) → RisesFrom a xs → RisesFrom a (xs ++ ys)
rises_append a c [] ys l h k r = k a l
rises_append a c (x ∷ xs) ys l h k r = (r.0, rises_append x c xs ys h.0 h.1 k r.1)

rises_map : (v : ℕ) (p : List ℕ) (xs : List (List ℕ)) → RisesFrom p xs → RisesFrom (v ∷ p) (map (λ q. v ∷ q) xs)
rises_map v p [] r = tt
rises_map v p (x ∷ xs) r = (inr (refl, r.0), rises_map v x xs r.1)

below_next : (v : ℕ) (xs : List (List ℕ)) → AllByRecursion (λ b. Less b (suc v ∷ [])) (map (λ q. v ∷ q) xs)
below_next v [] = tt
below_next v (x ∷ xs) = (inl (omega arith), below_next v xs)

from_rises : (below : List (List ℕ)) (n v : ℕ) (b : List ℕ) → RisesFrom [] below → Less b (v ∷ []) → RisesFrom b (from_value n v below)
from_rises below zero v b r l = tt
from_rises below (suc n) v b r l = (l, rises_append (v ∷ []) (suc v ∷ []) (map (λ q. v ∷ q) below) (from_value n (suc v) below) (inl (omega arith)) (below_next v below) (λ c k. from_rises below n (suc v) c r k) (rises_map v [] below r))

fits_map : (s v : ℕ) (shape : List ℕ) (xs : List (List ℕ)) → v < s → AllByRecursion (Fits shape) xs → AllByRecursion (Fits (s ∷ shape)) (map (λ q. v ∷ q) xs)
fits_map s v shape [] b h = tt
fits_map s v shape (x ∷ xs) b h = ((b, h.0), fits_map s v shape xs b h.1)

from_fits : (s n v : ℕ) (shape : List ℕ) (below : List (List ℕ)) → n + v ≤ s → AllByRecursion (Fits shape) below → AllByRecursion (Fits (s ∷ shape)) (from_value n v below)
from_fits s zero v shape below b h = tt
from_fits s (suc n) v shape below b h =
    let k : v < s = omega arith in
    let j : n + suc v ≤ s = omega arith in
    ((k, tt), each_append (Fits (s ∷ shape)) (map (λ q. v ∷ q) below) (from_value n (suc v) below) (fits_map s v shape below k h) (from_fits s n (suc v) shape below j h))

from_member : (n v c : ℕ) (cs : List ℕ) (below : List (List ℕ)) → v ≤ c → c < n + v → (cs ≡ []) ⊎ In below cs → In (from_value n v below) (c ∷ cs)
from_member zero v c cs below l u m = omega arith
from_member (suc n) v c cs below l u m = elim (cases_eq c v) [
  | inl e ↦ elim m [
    | inl z ↦ inl (cc)
    | inr k ↦ inr (in_left (map (λ q. v ∷ q) below) (from_value n (suc v) below) (c ∷ cs) (subst (λ w. In (map (λ q. v ∷ q) below) (w ∷ cs)) (sym e) (map_in (λ q. v ∷ q) below cs k)))
  ]
  | inr ne ↦ inr (in_right (map (λ q. v ∷ q) below) (from_value n (suc v) below) (c ∷ cs) (from_member n (suc v) c cs below (omega arith) (omega arith) m))
]

pub prefixes_rise : (shape : List ℕ) → RisesFrom [] (prefixes shape)
prefixes_rise [] = tt
prefixes_rise (s ∷ shape) = from_rises (prefixes shape) s 0 [] (prefixes_rise shape) tt

pub prefixes_fit : (shape : List ℕ) → AllByRecursion (Fits shape) (prefixes shape)
prefixes_fit [] = tt
prefixes_fit (s ∷ shape) = from_fits s s 0 shape (prefixes shape) (omega arith) (prefixes_fit shape)

pub prefixes_all : (shape x : List ℕ) → Fits shape x → Less [] x → In (prefixes shape) x
prefixes_all shape [] f l = absurd l
prefixes_all [] (c ∷ cs) f l = absurd f
prefixes_all (s ∷ shape) (c ∷ []) f l = let b : c < s = f.0 in from_member s 0 c [] (prefixes shape) (omega arith) (omega arith) (inl refl)
prefixes_all (s ∷ shape) (c ∷ d ∷ ds) f l = let b : c < s = f.0 in from_member s 0 c (d ∷ ds) (prefixes shape) (omega arith) (omega arith) (inr (prefixes_all shape (d ∷ ds) f.1 tt))

pub filter_listing : (shape : List ℕ) (P : List ℕ → Type 0) (test : List ℕ → Bool) → ((x : List ℕ) → (test x ≡ true) ↔ P x) → IsListing shape P [] (filter test (prefixes shape))
filter_listing shape P test d = record {
  rises = filter_rises test [] (prefixes shape) (prefixes_rise shape);
  each = filter_each (Fits shape) (λ x. Fits shape x × P x) test (prefixes shape) (λ x f e. (f, (d x).0 e)) (prefixes_fit shape);
  all = λ x f p l. filter_in test (prefixes shape) x ((d x).1 p) (prefixes_all shape x f l);
}

test_of : (Q : Type 0) → Q ⊎ (Q → ⊥) → Bool
test_of Q (inl q) = true
test_of Q (inr n) = false

test_tells : (Q : Type 0) (d : Q ⊎ (Q → ⊥)) → (test_of Q d ≡ true) ↔ Q
unfolding test_of
test_tells Q (inl q) = (λ e. q, λ k. refl)
test_tells Q (inr n) = (λ e. cc, λ k. absurd (n k))

above_start : (a : List ℕ) (P : List ℕ → Type 0) → ((x : List ℕ) → P x ⊎ (P x → ⊥)) → (x : List ℕ) → (P x × Less a x) ⊎ (P x × Less a x → ⊥)
above_start a P d x = elim (d x) [
  | inl p ↦ elim (less_or a x) [ inl l ↦ inl (p, l) | inr k ↦ inr (λ q. not_less x a k q.1) ]
  | inr n ↦ inr (λ q. n q.0)
]

raised : (a : List ℕ) (shape : List ℕ) (P : List ℕ → Type 0) (xs : List (List ℕ)) → RisesFrom [] xs → AllByRecursion (λ x. Fits shape x × (P x × Less a x)) xs → RisesFrom a xs
raised a shape P [] r h = tt
raised a shape P (x ∷ xs) r h = (h.0.1.1, r.1)

pub decided_listing : (shape : List ℕ) (P : List ℕ → Type 0) (a : List ℕ) → ((x : List ℕ) → P x ⊎ (P x → ⊥)) → (xs : List (List ℕ)) × IsListing shape P a xs
decided_listing shape P a d =
    let Q : List ℕ → Type 0 = λ x. P x × Less a x in
    let e = above_start a P d in
    let i = filter_listing shape Q (λ x. test_of (Q x) (e x)) (λ x. test_tells (Q x) (e x)) in (
      filter (λ x. test_of (Q x) (e x)) (prefixes shape),
      record {
        rises = raised a shape P _ i.rises i.each;
        each = each_weaker (λ x. Fits shape x × Q x) (λ x. Fits shape x × P x) _ (λ x h. (h.0, h.1.0)) i.each;
        all = λ x f p l. i.all x f (p, l) (some_above a x l);
      },
    )

pub one_listing : (shape : List ℕ) (test : List ℕ → Bool) (start : List ℕ) → HasOneListing shape (λ x. test x ≡ true) start
one_listing shape test start =
    let P : List ℕ → Type 0 = λ x. test x ≡ true in
    let i = decided_listing shape P start (λ x. either (test x)) in
    record { members = i.0; listing = i.1; only = λ xs j. listing_unique shape P start i.0 xs i.1 j }

fits_or : (shape x : List ℕ) → Fits shape x ⊎ (Fits shape x → ⊥)
fits_or shape [] = inl tt
fits_or [] (a ∷ x) = inr (λ f. f)
fits_or (s ∷ shape) (a ∷ x) = elim (cases_lt a s) [
  | inl l ↦ elim (fits_or shape x) [ inl f ↦ inl (l, f) | inr n ↦ inr (λ f. n f.1) ]
  | inr l ↦ inr (λ f. (let k : a < s = f.0 in omega arith))
]

-- it is enough that the predicate is decided for what goes with the shape
pub decided_listing_within : (shape : List ℕ) (P : List ℕ → Type 0) (a : List ℕ) → ((x : List ℕ) → Fits shape x → P x ⊎ (P x → ⊥)) → (xs : List (List ℕ)) × IsListing shape P a xs
decided_listing_within shape P a d =
    let Q : List ℕ → Type 0 = λ x. Fits shape x × P x in
    let decided : (x : List ℕ) → Q x ⊎ (Q x → ⊥) = λ x. elim (fits_or shape x) [
      | inl f ↦ elim (d x f) [ inl p ↦ inl (f, p) | inr n ↦ inr (λ q. n q.1) ]
      | inr n ↦ inr (λ q. n q.0)
    ] in
    let i = decided_listing shape Q a decided in (
      i.0,
      record {
        rises = i.1.rises;
        each = each_weaker (λ x. Fits shape x × Q x) (λ x. Fits shape x × P x) i.0 (λ x h. h.1) i.1.each;
        all = λ x f p l. i.1.all x f (f, p) l;
      },
    )

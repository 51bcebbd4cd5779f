-- What stands in a set that others make, and in one that is gone through.
use Rattle.std.proofs.Common.{false, Bool, refl, true, ◌≡◌, ◌≢◌, ◌↔◌, ◌&&◌, inl, inr, ◌⊎◌, ◌||◌, sym, List, ℕ, ◌∙◌, length, subst, ap, ◌==◌, ◌∷◌, arith, ◌<◌, [], ◌≤◌, ◌+◌, ◌++◌}
use Rattle.std.specs.Prelude.{not, nat_lt}
use Rattle.std.proofs.Math.Bool.{and_assoc}
use Rattle.std.proofs.lemmas.Bool.{false≢true, eq-eqb, eqb-true, ne_eqb, cases_eq, and_parts, false_from_ne_true, and_from, not_from_false, ltb-true}
use Rattle.std.proofs.lemmas.List.{nil_from_length}
use Rattle.xdg_facts.proofs.Rising.{no_member, head_in, has_next}
use Rattle.xdg_facts.proofs.Truths.{or_here, either_true, or_false}
use Rattle.xdg_facts.specs.Rises.{has, Rises}

pub both : (p q : Bool) → ((p && q) ≡ true) ↔ ((p ≡ true) × (q ≡ true))
both true q = (λ h. (refl, h), λ h. h.1)
both false q = (λ h. absurd (false≢true h), λ h. h.0)

pub either : (p q : Bool) → ((p || q) ≡ true) ↔ ((p ≡ true) ⊎ (q ≡ true))
either true q = (λ h. inl refl, λ h. refl)
either false q = (λ h. inr h, λ h. elim h [ inl f ↦ absurd (false≢true f) | inr t ↦ t ])

pub kept_in : (a b : Bool) → a ≡ true → (a && not b) ≡ false → b ≡ true
kept_in true true e h = refl
kept_in true false e h = absurd (false≢true (sym h))
kept_in false b e h = absurd (false≢true e)

pub extended_no : (set beyond : List ℕ) (middle b : ℕ) → has set middle ≡ false → (has set b ≡ true) ↔ ((has set b ≡ true) ⊎ ((has set middle ≡ true) × (has beyond b ≡ true)))
extended_no set beyond middle b h = (λ t. inl t, λ t. elim t [ inl o ↦ o | inr o ↦ absurd (false≢true (sym h ∙ o.0)) ])

pub extended_yes : (set beyond result : List ℕ) (middle b : ℕ) → has set middle ≡ true → has result b ≡ (has set b || has beyond b) → (has result b ≡ true) ↔ ((has set b ≡ true) ⊎ ((has set middle ≡ true) × (has beyond b ≡ true)))
extended_yes set beyond result middle b h e = (
  λ t. elim ((either (has set b) (has beyond b)).0 (sym e ∙ t)) [ inl o ↦ inl o | inr o ↦ inr (h, o) ],
  λ t. e ∙ (either (has set b) (has beyond b)).1 (elim t [ inl o ↦ inl o | inr o ↦ inr o.1 ]),
)

pub none_in : (set : List ℕ) (n : ℕ) → length set ≡ 0 → has set n ≡ true → ⊥
none_in set n e h = false≢true (subst (λ z. has z n ≡ true) (nil_from_length set e) h)

pub none_outside : (nodes set outside : List ℕ) (to : ℕ) → ((n : ℕ) → has outside n ≡ (has nodes n && not (has set n))) → length outside ≡ 0 → has nodes to ≡ true → has set to ≡ true
none_outside nodes set outside to rest none i =
    let missing : has outside to ≡ false = ap (λ z. has z to) (nil_from_length outside none) in
    kept_in (has nodes to) (has set to) i (sym (rest to) ∙ missing)

-- a set with one node more
pub one_more : (set old : List ℕ) (to b : ℕ) → has set b ≡ ((b == to) || has old b) → (has set b ≡ true) ↔ ((has old b ≡ true) ⊎ (to ≡ b))
one_more set old to b e = (
  λ h. elim ((either (b == to) (has old b)).0 (sym e ∙ h)) [ inl s ↦ inr (sym (eqb-true b to s)) | inr o ↦ inl o ],
  λ h. e ∙ (either (b == to) (has old b)).1 (elim h [ inl o ↦ inr o | inr s ↦ inl (eq-eqb b to (sym s)) ]),
)

-- what isn't still to come is the first of them, or wasn't among them
pub not_left : (left rest : List ℕ) (v w : ℕ) → left ≡ v ∷ rest → (w ≡ v → ⊥) → (has rest w ≡ true → ⊥) → has left w ≡ true → ⊥
not_left left rest v w is other gone h = gone (subst (λ b. (b || has rest w) ≡ true) (ne_eqb v w (λ e. other (sym e))) (subst (λ s. has s w ≡ true) is h))

-- what isn't behind the first isn't there, or is the first
pub still_out : (left rest : List ℕ) (v : ℕ) → left ≡ v ∷ rest → (w : ℕ) → has rest w ≡ false → (has left w ≡ false) ⊎ (w ≡ v)
still_out left rest v is w out = elim (cases_eq w v) [
  | inl same ↦ inr same
  | inr other ↦ inl (subst (λ s. has s w ≡ false) (sym is) (ap (λ b. b || has rest w) (ne_eqb v w (λ e. other (sym e))) ∙ out))
]

pub two_in : (s : List ℕ) → Rises 0 128 s → 1 < length s → (a : ℕ) × (b : ℕ) × (has s a ≡ true) × (has s b ≡ true) × (a ≢ b)
two_in [] rises two = absurd (omega (arith, two))
two_in (a ∷ []) rises two = absurd (omega (arith, two))
two_in (a ∷ b ∷ s) rises two = (
  a,
  b,
  or_here (a == a) (has (b ∷ s) a) (eq-eqb a a refl),
  either_true (a == b) (has (b ∷ s) b) (or_here (b == b) (has s b) (eq-eqb b b refl)),
  λ same. (let up = rises.2.0 in omega (arith, up, same)),
)

-- what is beside one of some nodes is beside the one that is beside the most
pub end_exact : (R : ℕ → ℕ → Type 0) (ends set : List ℕ) (end : ℕ) → has ends end ≡ true → ((v w : ℕ) → has ends w ≡ true → R v w → R v end) → ((v : ℕ) → (has set v ≡ true) ↔ R v end) → (v : ℕ) →
    (has set v ≡ true) ↔ ((w : ℕ) × (has ends w ≡ true) × R v w)
end_exact R ends set end among most exact v = (λ h. (end, among, (exact v).0 h), λ (w, there, at). (exact v).1 (most v w there at))

pub none_exact : (Q : ℕ → ℕ → Type 0) (ends set : List ℕ) → ends ≡ [] → set ≡ [] → (v : ℕ) → (has set v ≡ true) ↔ ((w : ℕ) × (has ends w ≡ true) × Q v w)
none_exact Q ends set none empty v = (λ h. absurd (no_member set v empty h), λ (w, there, q). absurd (no_member ends w none there))

pub least : (low bound v : ℕ) (s : List ℕ) → Rises low bound s → has s v ≡ true → low ≤ v
least low bound v [] rises h = absurd (false≢true h)
least low bound v (n ∷ s) rises h = elim ((either (n == v) (has s v)).0 h) [
  | inl same ↦ (let e = eqb-true n v same in let m = rises.0 in omega (arith, m, e))
  | inr later ↦ (let r = least (n + 1) bound v s rises.2 later in let m = rises.0 in omega (arith, r, m))
]

pub fewer_minus : (set other rest : List ℕ) → ((n : ℕ) → has rest n ≡ (has set n && not (has other n))) → (x : ℕ) → has rest x ≡ true → has set x ≡ true
fewer_minus set other rest members x there = (and_parts (has set x) (not (has other x)) (sym (members x) ∙ there)).0

-- without a member, and without those of another set
pub fewer_remove : (set rest : List ℕ) (node : ℕ) → ((n : ℕ) → has rest n ≡ (not (n == node) && has set n)) → (x : ℕ) → has rest x ≡ true → has set x ≡ true
fewer_remove set rest node members x there = (and_parts (not (x == node)) (has set x) (sym (members x) ∙ there)).1

-- a name that isn't among the rest isn't among all, but for the one that was taken
pub not_rest : (all rest : List ℕ) (name other : ℕ) → ((n : ℕ) → has rest n ≡ (not (n == name) && has all n)) → (has rest other ≡ true → ⊥) → other ≢ name → has all other ≡ true → ⊥
not_rest all rest name other members out differ there =
    out (members other ∙ and_from (not (other == name)) (has all other) (not_from_false (other == name) (false_from_ne_true (other == name) (λ t. differ (eqb-true other name t)))) there)

pub next_above : (low bound a b : ℕ) (nodes : List ℕ) → Rises low bound (a ∷ b ∷ nodes) → a < b
next_above low bound a b nodes rises = (let up = rises.2.0 in omega (arith, up))

pub two_nodes : (nodes : List ℕ) (m k : ℕ) → m ≢ k → has nodes m ≡ true → has nodes k ≡ true → 1 < length nodes
two_nodes [] m k differ h i = absurd (false≢true h)
two_nodes (a ∷ []) m k differ h i = absurd (differ (sym (eqb-true a m (sym (or_false (a == m)) ∙ h)) ∙ eqb-true a k (sym (or_false (a == k)) ∙ i)))
two_nodes (a ∷ b ∷ nodes) m k differ h i = omega arith

pub only_end : (v : ℕ) (set empty : List ℕ) → empty ≡ [] → ((x : ℕ) → (has set x ≡ true) ↔ ((has empty x ≡ true) ⊎ (v ≡ x))) → (x : ℕ) → (has set x ≡ true) ↔ (v ≡ x)
only_end v set empty e h x = (
  λ t. elim ((h x).0 t) [ inl n ↦ absurd (false≢true (subst (λ z. has z x ≡ true) e n)) | inr s ↦ s ],
  λ s. (h x).1 (inr s),
)

pub meets : (a b c u v w : List ℕ) → ((n : ℕ) → has u n ≡ (has a n && has b n)) → ((n : ℕ) → has w n ≡ (has u n && has c n)) → ((n : ℕ) → has v n ≡ (has b n && has c n)) → (n : ℕ) → has w n ≡ (has a n && has v n)
meets a b c u v w h k l n = k n ∙ ap (λ t. t && has c n) (h n) ∙ and_assoc (has a n) (has b n) (has c n) ∙ ap (λ t. has a n && t) (sym (l n))

-- the next of some nodes of the sentence
pub next_within : (n : ℕ) (some all here first left rest : List ℕ) (v : ℕ) → ((k : ℕ) → has all k ≡ nat_lt k n) → ((k : ℕ) → has here k ≡ (has some k && has all k)) → first ≡ here → ((k : ℕ) → has left k ≡ true → has first k ≡ true) → left ≡ v ∷ rest → v < n
next_within n some all here first left rest v whole met first_is within is = ltb-true v n (sym (whole v) ∙ ((both (has some v) (has all v)).0 (sym (met v) ∙ ap (λ s. has s v) (sym first_is) ∙ within v (head_in left rest v is))).1)

pub greatest : (low bound v : ℕ) (front : List ℕ) (end : ℕ) → Rises low bound (front ++ end ∷ []) → has (front ++ end ∷ []) v ≡ true → v ≤ end
greatest low bound v [] end rises h = elim ((either (end == v) false).0 h) [
  | inl same ↦ (let e = eqb-true end v same in omega (arith, e))
  | inr none ↦ absurd (false≢true none)
]
greatest low bound v (n ∷ front) end rises h = elim ((either (n == v) (has (front ++ end ∷ []) v)).0 h) [
  | inl same ↦ (let e = eqb-true n v same in let m = least (n + 1) bound end (front ++ end ∷ []) rises.2 (has_next front [] end) in omega (arith, e, m))
  | inr later ↦ greatest (n + 1) bound v front end rises.2 later
]

-- Two lists that differ at a place.
use Rattle.std.proofs.Common.{zero, arith, List, suc, map, length, ℕ, ◌≡◌, ◌<◌, [], ◌∷◌, ap, false, subst, true, sym, ◌∙◌}
use Rattle.std.specs.Prelude.{slice_index_or, Bool, IsTrue, ◌↔◌}
use Rattle.std.proofs.lemmas.Bool.{true≢false}
use Rattle.std.proofs.lemmas.List.{get_or_default}
use Rattle.xdg_facts.proofs.Lists.{tail_of, head_of}

-- lists with the same images, read at one place
same_at : {A B : Type 0} (f : A → B) (xs ys : List A) (at : ℕ) (d e : A) → at < length xs → map f xs ≡ map f ys → f (slice_index_or xs at d) ≡ f (slice_index_or ys at e)
same_at f [] ys at d e less h = absurd (omega arith)
same_at f (a ∷ xs) [] at d e less h = absurd cc
same_at f (a ∷ xs) (b ∷ ys) zero d e less h = head_of (f a) (f b) (map f xs) (map f ys) h
same_at f (a ∷ xs) (b ∷ ys) (suc at) d e less h = same_at f xs ys at d e (omega arith) (tail_of (f a) (f b) (map f xs) (map f ys) h)

-- lists that differ at a place, seen in a part of the images, have other images
pub differ_by : {A B C : Type 0} (f : A → B) (part : B → C) (xs ys : List A) (at : ℕ) (d e : A) (same : Bool) → at < length xs
    → (IsTrue same ↔ (part (f (slice_index_or xs at d)) ≡ part (f (slice_index_or ys at e)))) → same ≡ false → IsTrue false ↔ (map f xs ≡ map f ys)
differ_by f part xs ys at d e same less told is = (λ t. absurd cc, λ h. rw is at (told.1 (ap part (same_at f xs ys at d e less h))))

-- lists that differ at a place
pub differ_at : {A B : Type 0} (f : A → B) (xs ys : List A) (at : ℕ) (d e : A) (same : Bool) → at < length xs
    → (IsTrue same ↔ (f (slice_index_or xs at d) ≡ f (slice_index_or ys at e))) → same ≡ false → IsTrue false ↔ (map f xs ≡ map f ys)
differ_at f = differ_by f (λ y. y)

-- the same of elements that were read
pub differ_read : {A B : Type 0} (f : A → B) (xs ys : List A) (at : ℕ) (x y : A) (same : Bool) → at < length xs → x ≡ slice_index_or xs at x → y ≡ slice_index_or ys at y
    → (IsTrue same ↔ (f x ≡ f y)) → same ≡ false → IsTrue false ↔ (map f xs ≡ map f ys)
differ_read f xs ys at x y same less is_x is_y told = differ_at f xs ys at x y same less (subst (λ u. IsTrue same ↔ (f u ≡ f (slice_index_or ys at y))) is_x (subst (λ u. IsTrue same ↔ (f x ≡ f u)) is_y told))

-- lists with elements that differ in a part at a place
differ : {A B : Type 0} (part : A → B) (xs ys : List A) (at : ℕ) (d e : A) → at < length xs → (part (slice_index_or xs at d) ≡ part (slice_index_or ys at e) → ⊥)
    → (false ≡ true) ↔ (xs ≡ ys)
differ part xs ys at d e less other = (
  λ h. absurd (true≢false (sym h)),
  λ h. absurd (other (ap part (get_or_default xs at d e less ∙ ap (λ l. slice_index_or l at e) h))),
)

pub differ_value : {A : Type 0} (xs ys : List (ℕ × A)) (at : ℕ) (d e : ℕ × A) (same : Bool) → at < length xs
    → ((same ≡ true) ↔ ((slice_index_or xs at d).1 ≡ (slice_index_or ys at e).1)) → same ≡ false → (false ≡ true) ↔ (xs ≡ ys)
differ_value xs ys at d e same less told is = differ (λ entry. entry.1) xs ys at d e less (λ h. true≢false (sym (told.1 h) ∙ is))

pub differ_key : {A : Type 0} (xs ys : List (ℕ × A)) (at : ℕ) (d e : ℕ × A) → at < length xs → ((slice_index_or xs at d).0 ≡ (slice_index_or ys at e).0 → ⊥)
    → (false ≡ true) ↔ (xs ≡ ys)
differ_key = differ (λ entry. entry.0)

-- Which lists go with a shape: fronts, further numbers, and numbers that are out of range.
use Rattle.std.proofs.Common.{◌≡◌, ℕ, ◌<◌, ◌≤◌, inl, inr, List, [], ◌∷◌, ◌++◌, length, get_or, arith, drop, ◌+◌, take, sym, subst, zero, suc, length-append, ◌≢◌}
use Rattle.xdg_facts.specs.Order.{AtMost, Past}
use Rattle.xdg_facts.specs.Fits.{Fits}
use Rattle.std.specs.Prelude.{◌↔◌}
use Rattle.std.proofs.lemmas.List.{drop_more, drop_all, take-append-drop}
use Rattle.xdg_facts.proofs.Fronts.{pushed_front, front_more}

pub fits_push : (shape p : List ℕ) (v : ℕ) → Fits shape p → v < get_or shape (length p) 0 → Fits shape (p ++ v ∷ [])
fits_push [] [] v f h = omega arith
fits_push (s ∷ shape) [] v f h = (h, tt)
fits_push [] (a ∷ p) v f h = f
fits_push (s ∷ shape) (a ∷ p) v f h = (f.0, fits_push shape p v f.1 h)

pub fits_front : (shape p t : List ℕ) → Fits shape (p ++ t) → Fits shape p
fits_front shape [] t f = tt
fits_front [] (a ∷ p) t f = f
fits_front (s ∷ shape) (a ∷ p) t f = (f.0, fits_front shape p t f.1)

pub fits_length : (shape p : List ℕ) → Fits shape p → length p ≤ length shape
fits_length shape [] f = omega arith
fits_length [] (a ∷ p) f = absurd f
fits_length (s ∷ shape) (a ∷ p) f = let h = fits_length shape p f.1 in omega arith

pub fits_last : (shape p : List ℕ) (v : ℕ) → Fits shape (p ++ v ∷ []) → v < get_or shape (length p) 0
fits_last [] [] v f = absurd f
fits_last (s ∷ shape) [] v f = f.0
fits_last [] (a ∷ p) v f = absurd f
fits_last (s ∷ shape) (a ∷ p) v f = fits_last shape p v f.1

-- where v is no value of the decision behind p, what fits and does not come before p with v is past p
pub past_range : (shape p x : List ℕ) (v : ℕ) → get_or shape (length p) 0 ≤ v → Fits shape x → AtMost (p ++ v ∷ []) x → Past p x
past_range shape [] [] v h f (inl e) = absurd (cc)
past_range shape [] [] v h f (inr l) = absurd l
past_range [] [] (b ∷ x) v h f l = absurd f
past_range (s ∷ shape) [] (b ∷ x) v h f (inl e) = (let g : b < s = f.0 in let q : v ≡ b = cc in absurd (omega arith))
past_range (s ∷ shape) [] (b ∷ x) v h f (inr (inl l)) = (let g : b < s = f.0 in absurd (omega arith))
past_range (s ∷ shape) [] (b ∷ x) v h f (inr (inr e)) = (let g : b < s = f.0 in let q : v ≡ b = e.0 in absurd (omega arith))
past_range shape (a ∷ p) [] v h f (inl e) = absurd (cc)
past_range shape (a ∷ p) [] v h f (inr l) = absurd l
past_range [] (a ∷ p) (b ∷ x) v h f l = absurd f
past_range (s ∷ shape) (a ∷ p) (b ∷ x) v h f (inl e) = (let q : a ≡ b = cc in let r : p ++ v ∷ [] ≡ x = cc in inr (q, past_range shape p x v h f.1 (inl r)))
past_range (s ∷ shape) (a ∷ p) (b ∷ x) v h f (inr (inl l)) = inl l
past_range (s ∷ shape) (a ∷ p) (b ∷ x) v h f (inr (inr e)) = inr (e.0, past_range shape p x v h f.1 (inr e.1))

pub fits_after : (front rest x : List ℕ) → Fits (front ++ rest) x → Fits rest (drop (length front) x)
fits_after [] rest x f = f
fits_after (s ∷ front) rest [] f = tt
fits_after (s ∷ front) rest (a ∷ x) f = fits_after front rest x f.1

pub fits_before : (front rest x : List ℕ) → Fits (front ++ rest) x → Fits front (take (length front) x)
fits_before [] rest x f = tt
fits_before (s ∷ front) rest [] f = tt
fits_before (s ∷ front) rest (a ∷ x) f = (f.0, fits_before front rest x f.1)

pub fits_both : (front rest x y : List ℕ) → length x ≡ length front → Fits front x → Fits rest y → Fits (front ++ rest) (x ++ y)
fits_both [] rest [] y l f g = g
fits_both (s ∷ front) rest (a ∷ x) y l f g = (f.0, fits_both front rest x y (omega arith) f.1 g)
fits_both front rest x y l f g = absurd (omega arith)

fits_from : (shape x : List ℕ) (k : ℕ) → k < length shape → k < length x → Fits (drop k shape) (drop k x) ↔ ((get_or x k 0 < get_or shape k 0) × Fits (drop (k + 1) shape) (drop (k + 1) x))
fits_from shape x k l m =
    subst (λ z. Fits z (drop k x) ↔ ((get_or x k 0 < get_or shape k 0) × Fits (drop (k + 1) shape) (drop (k + 1) x))) (sym (drop_more shape k 0 l))
    (subst (λ z. Fits (get_or shape k 0 ∷ drop (k + 1) shape) z ↔ ((get_or x k 0 < get_or shape k 0) × Fits (drop (k + 1) shape) (drop (k + 1) x))) (sym (drop_more x k 0 m)) (λ h. h, λ h. h))

pub fits_end : (shape x : List ℕ) (k : ℕ) → length x ≤ k → Fits (drop k shape) (drop k x)
fits_end shape x k l = subst (λ z. Fits (drop k shape) z) (sym (drop_all k x l)) tt

pub fits_refused : (shape x : List ℕ) (k : ℕ) → k < length shape → k < length x → get_or shape k 0 ≤ get_or x k 0 → Fits (drop k shape) (drop k x) → ⊥
fits_refused shape x k l m n r = let h = ((fits_from shape x k l m).0 r).0 in omega (arith, h)

pub fits_split : (front rest x : List ℕ) (n : ℕ) → length front ≡ n → n ≤ length x → Fits (front ++ rest) x ↔ (Fits front (take n x) × Fits rest (drop n x))
fits_split [] rest x zero e l = (λ f. (tt, f), λ f. f.1)
fits_split (s ∷ front) rest (a ∷ x) (suc n) e l =
    let h = fits_split front rest x n (omega arith) (omega arith) in
    (λ f. ((f.0, (h.0 f.1).0), (h.0 f.1).1), λ f. (f.0.0, h.1 (f.0.1, f.1)))
fits_split front rest x n e l = absurd (omega arith)

pub fits_step : (shape x : List ℕ) (k : ℕ) → k < length shape → k < length x → get_or x k 0 < get_or shape k 0 → Fits (drop (k + 1) shape) (drop (k + 1) x) ↔ Fits (drop k shape) (drop k x)
fits_step shape x k l m c = let h = fits_from shape x k l m in (λ r. h.1 (c, r), λ r. (h.0 r).1)

-- something is left to decide before the last of them
pub more_left : (shape p t : List ℕ) (v : ℕ) → Fits shape (p ++ v ∷ t) → length p ≢ length shape
more_left shape p t v f e = (let most = fits_length shape (p ++ v ∷ t) f in let long = length-append p (v ∷ t) in omega (arith, most, long, e))

pub smaller_fits : (shape p : List ℕ) (u v : ℕ) → u < v → Fits shape (p ++ v ∷ []) → Fits shape (p ++ u ∷ [])
smaller_fits shape p u v l f = let k = fits_last shape p v f in fits_push shape p u (fits_front shape p (v ∷ []) f) (omega (arith, l, k))

pub number_fits : (shape r t : List ℕ) (w : ℕ) → Fits shape (r ++ w ∷ t) → w < get_or shape (length r) 0
number_fits shape r t w f = fits_last shape r w (fits_front shape (r ++ w ∷ []) t (subst (Fits shape) (sym (pushed_front r t w)) f))

pub start_fits : (shape start numbers : List ℕ) (k v : ℕ) → Fits shape start → k < length start → numbers ≡ take k start → v ≡ get_or start k 0 → Fits shape (numbers ++ v ∷ [])
start_fits shape start numbers k v f h e w =
    subst (Fits shape) (sym (front_more start numbers k v h e w)) (fits_front shape (take (k + 1) start) (drop (k + 1) start) (subst (Fits shape) (sym (take-append-drop (k + 1) start)) f))

pub start_range : (shape start numbers : List ℕ) (k v : ℕ) {later : List ℕ} → Fits shape start → later ≡ shape → k < length start → numbers ≡ take k start → v ≡ get_or start k 0 → v < get_or later (length numbers) 0
start_range shape start numbers k v {later} f s h e w =
    subst (λ z. v < get_or z (length numbers) 0) (sym s) (fits_last shape numbers v (start_fits shape start numbers k v f h e w))

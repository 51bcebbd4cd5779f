-- Numbers that fall are the greatest of their arrangements, and numbers that climb the least.
use Rattle.std.proofs.Common.{◌≡◌, ◌<◌, ◌≤◌, inl, inr, ℕ, suc, List, [], ◌∷◌, length, refl, sym, subst, arith, le_refl, reverse}
use Rattle.std.proofs.lemmas.Bool.{cases_eq}
use Rattle.xdg_facts.specs.Order.{Less, AtMost}
use Rattle.xdg_linear.specs.Arrangements.{IsArrangement}
use Rattle.xdg_linear.specs.Falling.{Falls}
use Rattle.xdg_linear.proofs.Times.{at_times, arrangement_tail, first_stands}
use Rattle.xdg_facts.proofs.Each.{each_reverse, reverse-cons}
use Rattle.xdg_facts.proofs.Ordered.{at_most_cons}
use Rattle.xdg_facts.proofs.Sorting.{Climbs, climbs_push}

pub no_more : (x : ℕ) (xs : List ℕ) → IsArrangement [] (x ∷ xs) → ⊥
no_more x xs h = let e : suc (length xs) ≡ 0 = h.size in omega arith

no_fewer : (x : ℕ) (xs : List ℕ) → IsArrangement (x ∷ xs) [] → ⊥
no_fewer x xs h = let e : 0 ≡ suc (length xs) = h.size in omega arith

pub falling_greatest : (xs ys : List ℕ) → Falls xs → IsArrangement xs ys → Less xs ys → ⊥
falling_greatest [] [] f h l = l
falling_greatest [] (y ∷ ys) f h l = no_more y ys h
falling_greatest (x ∷ xs) [] f h l = l
falling_greatest (x ∷ xs) (y ∷ ys) f h (inl less) =
    let most : y ≤ x = at_times (λ z. z ≤ x) y (x ∷ xs) (first_stands (x ∷ xs) y ys h) (le_refl x, f.0) in
    omega arith
falling_greatest (x ∷ xs) (y ∷ ys) f h (inr e) = falling_greatest xs ys f.1 (arrangement_tail x y xs ys e.0 h) e.1

pub climbing_least : (xs ys : List ℕ) → Climbs xs → IsArrangement xs ys → AtMost xs ys
climbing_least [] [] c h = inl refl
climbing_least [] (y ∷ ys) c h = absurd (no_more y ys h)
climbing_least (x ∷ xs) [] c h = absurd (no_fewer x xs h)
climbing_least (x ∷ xs) (y ∷ ys) c h =
    let least : x ≤ y = at_times (λ z. x ≤ z) y (x ∷ xs) (first_stands (x ∷ xs) y ys h) (le_refl x, c.0) in
    elim (cases_eq x y) [
      | inl e ↦ at_most_cons x y xs ys e (climbing_least xs ys c.1 (arrangement_tail x y xs ys e h))
      | inr ne ↦ (let less : x < y = omega arith in inr (inl less))
    ]

-- ---- what falls climbs the other way round

pub climbs_reverse : (xs : List ℕ) → Falls xs → Climbs (reverse xs)
climbs_reverse [] f = tt
climbs_reverse (x ∷ xs) f = subst Climbs (sym (reverse-cons x xs)) (climbs_push (reverse xs) x (climbs_reverse xs f.1) (each_reverse (λ y. y ≤ x) xs f.0))

-- ---- sorted numbers climb

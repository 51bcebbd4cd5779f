-- What the steps of a call come to: the next arrangement.
use Rattle.std.proofs.Common.{◌≡◌, ◌<◌, ◌≤◌, ◌+◌, ◌-◌, ℕ, zero, suc, List, [], ◌∷◌, ◌++◌, Some, length, ap, sym, ◌∙◌, subst, arith, reverse, get_or, set, take, drop, swap, length-drop}
use Rattle.std.proofs.lemmas.List.{drop_more, get_or-drop}
use Rattle.std.specs.List.{AllByRecursion}
use Rattle.xdg_linear.specs.Arrangements.{IsNext, IsLast}
use Rattle.xdg_linear.specs.Falling.{Falls, IsPivot, IsSuccessor}
use Rattle.xdg_linear.proofs.Ends.{falling_greatest}
use Rattle.xdg_linear.proofs.Turning.{turned_next, next_cons}
use Rattle.xdg_facts.proofs.Lists.{swap_is}

-- ---- the scan from the end

all_weaker : (x y : ℕ) (xs : List ℕ) → y ≤ x → AllByRecursion (λ z. z ≤ y) xs → AllByRecursion (λ z. z ≤ x) xs
all_weaker x y [] le each = tt
all_weaker x y (z ∷ zs) le each = (let here : z ≤ y = each.0 in omega arith, all_weaker x y zs le each.1)

falls_cons : (x : ℕ) (xs : List ℕ) → get_or xs 0 0 ≤ x → Falls xs → Falls (x ∷ xs)
falls_cons x [] le f = (tt, tt)
falls_cons x (y ∷ ys) le f = ((le, all_weaker x y ys le f.0), f)

-- one number more, which is not smaller
pub falls_more : (xs : List ℕ) (j n : ℕ) → n ≡ j + 1 → n < length xs → get_or xs n 0 ≤ get_or xs j 0 → Falls (drop n xs) → Falls (drop j xs)
falls_more xs j n e w le f =
    let here : j < length xs = omega arith in
    let same : drop j xs ≡ get_or xs j 0 ∷ drop n xs = subst (λ k. drop j xs ≡ get_or xs j 0 ∷ drop k xs) (sym e) (drop_more xs j 0 here) in
    let first : get_or (drop n xs) 0 0 ≡ get_or xs (n + 0) 0 = get_or-drop n xs 0 0 in
    let zero_more : n + 0 ≡ n = omega arith in
    let small : get_or (drop n xs) 0 0 ≤ get_or xs j 0 = subst (λ k. k ≤ get_or xs j 0) (sym (first ∙ ap (λ k. get_or xs k 0) zero_more)) le in
    subst Falls (sym same) (falls_cons (get_or xs j 0) (drop n xs) small f)

falls_short : (xs : List ℕ) → length xs ≤ 1 → Falls xs
falls_short [] le = tt
falls_short (x ∷ []) le = (tt, tt)
falls_short (x ∷ y ∷ xs) le = absurd (omega arith)

-- the last number alone
pub falls_last : (xs : List ℕ) → Falls (drop (length xs - 1) xs)
falls_last xs = falls_short (drop (length xs - 1) xs) (let size = length-drop (length xs - 1) xs in omega (arith, size))

-- ---- the exchange

turned_behind : (xs : List ℕ) (p q : ℕ) → p < q → q < length xs → get_or xs p 0 < get_or xs q 0 → Falls (drop (suc p) xs) → ((k : ℕ) → q < k → k < length xs → get_or xs k 0 ≤ get_or xs p 0) →
    IsNext xs (Some xs) (take (suc p) (set (set xs p (get_or xs q 0)) q (get_or xs p 0)) ++ reverse (drop (suc p) (set (set xs p (get_or xs q 0)) q (get_or xs p 0))))
turned_behind [] p q behind w less f none = absurd (omega arith)
turned_behind (x ∷ xs) zero zero behind w less f none = absurd (omega arith)
turned_behind (x ∷ xs) zero (suc q) behind w less f none = turned_next x xs q f (omega arith) less (λ k lt u. none (suc k) (omega arith) (omega arith))
turned_behind (x ∷ xs) (suc p) zero behind w less f none = absurd (omega arith)
turned_behind (x ∷ xs) (suc p) (suc q) behind w less f none =
    next_cons x xs (take (suc p) (set (set xs p (get_or xs q 0)) q (get_or xs p 0)) ++ reverse (drop (suc p) (set (set xs p (get_or xs q 0)) q (get_or xs p 0)))) (turned_behind xs p q (omega arith) (omega arith) less f (λ k lt u. none (suc k) (omega arith) (omega arith)))

pub turned_is_next : (old swapped new : List ℕ) (p q : ℕ) → IsPivot old p → IsSuccessor old p q → swapped ≡ swap old p q → new ≡ take (p + 1) swapped ++ reverse (drop (p + 1) swapped) → IsNext old (Some old) new
turned_is_next old swapped new p q pivot successor is_swap is_new =
    let behind : p < q = successor.behind in
    let inside : q < length old = successor.within in
    let next : p + 1 ≡ suc p = omega arith in
    let same : swapped ≡ set (set old p (get_or old q 0)) q (get_or old p 0) = is_swap ∙ swap_is old p q (omega arith) inside in
    let made : new ≡ take (suc p) (set (set old p (get_or old q 0)) q (get_or old p 0)) ++ reverse (drop (suc p) (set (set old p (get_or old q 0)) q (get_or old p 0))) = is_new ∙ ap (λ k. take k swapped ++ reverse (drop k swapped)) next ∙ ap (λ z. take (suc p) z ++ reverse (drop (suc p) z)) same in
    subst (IsNext old (Some old)) (sym made) (turned_behind old p q behind inside successor.greater (subst (λ k. Falls (drop k old)) next pivot.falls) successor.last)

-- where no place is a pivot, none comes next
pub falling_is_last : (xs : List ℕ) → Falls xs → IsLast xs (Some xs)
falling_is_last xs f = λ other h less. falling_greatest xs other f h less

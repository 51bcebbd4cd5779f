-- The number of a tuple and the numbers of its constants tell each other.
use Rattle.std.proofs.Common.{◌≡◌, ℕ, ◌<◌, ◌+◌, ◌*◌, ◌/◌, ◌%◌, zero, suc, List, [], ◌∷◌, length, get_or, take, drop, refl, ap, ap₂, sym, ◌∙◌, arith, subst}
use Rattle.std.proofs.Math.Nat.{mul_comm, mul_assoc, mod-lt, div-lt_iff_lt-mul, mod-eq_of_lt}
use Rattle.std.proofs.lemmas.Nat.{mul-add-lt, div-mul-add, mod-mul-add, div-add-mod'}
use Rattle.xdg_domain.specs.Shapes.{product}
use Rattle.xdg_domain.specs.Tuples.{index, places, InRange, TupleLaws}
use Rattle.xdg_facts.proofs.Numbers.{some_after, some_factor, lowest}

-- ---- both ways

-- the number is below the number of tuples
pub index_below : (sizes numbers : List ℕ) → InRange sizes numbers → index sizes numbers < product sizes
unfolding index product
index_below [] [] within = omega arith
index_below (s ∷ ss) (n ∷ ns) within = subst (λ m. n * product ss + index ss ns < m) (mul_comm (product ss) s) (mul-add-lt n (product ss) (index ss ns) s within.0 (index_below ss ns within.1))
index_below sizes numbers within = absurd within

-- the places of the tuple with the number of these are these
pub places_of_index : (sizes numbers : List ℕ) → InRange sizes numbers → places sizes (index sizes numbers) ≡ numbers
unfolding index places
places_of_index [] [] within = refl
places_of_index (s ∷ ss) (n ∷ ns) within =
    let below = index_below ss ns within.1 in
    ap₂ (λ (m : ℕ) (ms : List ℕ). m ∷ ms)
    (div-mul-add n (product ss) (index ss ns) below)
    (ap (places ss) (mod-mul-add n (product ss) (index ss ns) below) ∙ places_of_index ss ns within.1)
places_of_index sizes numbers within = absurd within

-- the number of the tuple with the places of this one is this one
pub index_of_places : (sizes : List ℕ) (n : ℕ) → n < product sizes → index sizes (places sizes n) ≡ n
unfolding index places product
index_of_places [] n below = omega (arith, below)
index_of_places (s ∷ ss) n below =
    let some = some_after s (product ss) n below in
    ap (λ m. n / product ss * product ss + m) (index_of_places ss (n % product ss) (mod-lt n some)) ∙ div-add-mod' n (product ss)

-- the places are in range
pub places_in_range : (sizes : List ℕ) (n : ℕ) → n < product sizes → InRange sizes (places sizes n)
unfolding places product
places_in_range [] n below = tt
places_in_range (s ∷ ss) n below =
    let some = some_after s (product ss) n below in
    ((div-lt_iff_lt-mul {k = product ss} {x = n} {y = s} some).1 below, places_in_range ss (n % product ss) (mod-lt n some))

pub tuples_one_to_one : (sizes : List ℕ) → TupleLaws sizes
tuples_one_to_one sizes = record {
  below = index_below sizes;
  range = places_in_range sizes;
  back = places_of_index sizes;
  forth = index_of_places sizes;
}

-- ---- one place

pub length_places : (sizes : List ℕ) (n : ℕ) → length (places sizes n) ≡ length sizes
unfolding places
length_places [] n = refl
length_places (s ∷ ss) n = ap suc (length_places ss (n % product ss))

-- the later sizes multiplied are a part of all of them
pub later_sizes : (sizes : List ℕ) (k : ℕ) → k < length sizes → product sizes ≡ product (take k sizes) * (get_or sizes k 0 * product (drop (suc k) sizes))
unfolding product
later_sizes [] k within = absurd (omega (arith, within))
later_sizes (s ∷ ss) zero within = omega arith
later_sizes (s ∷ ss) (suc k) within = ap (λ m. s * m) (later_sizes ss k (omega (arith, within))) ∙ sym (mul_assoc s (product (take k ss)) (get_or ss k 0 * product (drop (suc k) ss)))

-- the place of one field
pub place_at : (sizes : List ℕ) (n k : ℕ) → n < product sizes → k < length sizes → get_or (places sizes n) k 0 ≡ n / product (drop (suc k) sizes) % get_or sizes k 0
unfolding places product
place_at [] n k below within = absurd (omega (arith, within))
place_at (s ∷ ss) n zero below within =
    let some = some_after s (product ss) n below in
    sym (mod-eq_of_lt ((div-lt_iff_lt-mul {k = product ss} {x = n} {y = s} some).1 below))
place_at (s ∷ ss) n (suc k) below within =
    let some = some_after s (product ss) n below in
    let inner : k < length ss = omega (arith, within) in
    let is = later_sizes ss k inner in
    place_at ss (n % product ss) k (mod-lt n some) inner
    ∙ lowest n (product ss) (product (take k ss)) (get_or ss k 0) (product (drop (suc k) ss)) (some_factor (product (take k ss)) (get_or ss k 0) (product (drop (suc k) ss)) (subst (λ m. 0 < m) is some)) is

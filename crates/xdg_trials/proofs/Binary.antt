-- Prefixes of numbers 0 and 1 in which neighbours differ: behind each number only the other one is counted.
use Rattle.std.proofs.Common.{◌≡◌, ◌≢◌, ◌⊎◌, inl, inr, ℕ, ◌<◌, ◌≤◌, ◌-◌, zero, suc, List, [], ◌∷◌, ◌++◌, length, get_or, take, drop, ap, sym, ◌∙◌, arith, subst}
use Rattle.std.proofs.lemmas.List.{append_assoc}
use Rattle.xdg_facts.specs.Fits.{Fits}
use Rattle.xdg_facts.proofs.Fitting.{fits_front, fits_last}
use Rattle.xdg_stream.specs.Apart.{IsApart}
use Rattle.xdg_stream.specs.Forced.{AreLast}
use Rattle.xdg_facts.proofs.Fronts.{first_number}

abbrev three : List ℕ
three = 2 ∷ 2 ∷ 2 ∷ []

at_most_two : (n : ℕ) → get_or three n 0 ≤ 2
at_most_two zero = omega arith
at_most_two (suc zero) = omega arith
at_most_two (suc (suc zero)) = omega arith
at_most_two (suc (suc (suc n))) = omega arith

apart_pair : (q t : List ℕ) (x v : ℕ) → IsApart ((q ++ x ∷ []) ++ v ∷ t) → x ≢ v
apart_pair [] t x v h = h.0
apart_pair (a ∷ []) t x v h = h.1.0
apart_pair (a ∷ b ∷ q) t x v h = apart_pair (b ∷ q) t x v h.1

below_two : (q : List ℕ) (x : ℕ) → Fits three (q ++ x ∷ []) → x < 2
below_two q x f = (let k = fits_last three q x f in let m = at_most_two (length q) in omega (arith, k, m))

-- behind a number no greater one than those that stand there is counted
run_last : (q t : List ℕ) (x : ℕ) → Fits three ((q ++ x ∷ []) ++ t) → IsApart ((q ++ x ∷ []) ++ t) → AreLast three IsApart (q ++ x ∷ []) t
run_last q [] x fits apart = tt
run_last q (w ∷ t) x fits apart =
    let e = sym (append_assoc (q ++ x ∷ []) (w ∷ []) t) in
    let long = subst (Fits three) e fits in (
      λ u l f c. (
          let small = below_two q x (fits_front three (q ++ x ∷ []) (w ∷ t) fits) in
          let this = below_two (q ++ x ∷ []) w (fits_front three ((q ++ x ∷ []) ++ w ∷ []) t long) in
          let that = below_two (q ++ x ∷ []) u f in
          let n = apart_pair q t x w apart in
          let m = apart_pair q [] x u c in
          omega (arith, small, this, that, n, m, l)
          ),
      run_last (q ++ x ∷ []) t w long (subst IsApart e apart),
    )

-- ---- what the code does

apart_where : (now : List ℕ) → 0 < length now → (length now ≡ 0) ⊎ IsApart now → IsApart now
apart_where now some (inl none) = absurd (omega (arith, some, none))
apart_where now some (inr apart) = apart

-- down to the first number
pub first_left : (numbers now : List ℕ) (len v : ℕ) → take len numbers ≡ now → len ≢ 0 → 0 < length numbers → Fits three now → (length now ≡ 0) ⊎ IsApart now → v ≡ get_or numbers 0 0 → (rest : List ℕ) × (now ≡ v ∷ rest) × AreLast three IsApart (v ∷ []) rest
first_left numbers now len v view some within fits counts is =
    let rest : List ℕ = take (len - 1) (drop 1 numbers) in
    let front : now ≡ v ∷ rest = sym view ∙ first_number numbers len (omega (arith, some)) within ∙ ap (λ z. z ∷ rest) (sym is) in
    let apart = apart_where now (let e = ap length front in omega (arith, e)) counts in
    (rest, front, run_last [] rest v (subst (Fits three) front fits) (subst IsApart front apart))

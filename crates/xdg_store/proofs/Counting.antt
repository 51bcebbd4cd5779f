-- How many values remain in a box, and what that tells.
use Rattle.std.proofs.Common.{◌≡◌, ℕ, ◌<◌, ◌≤◌, ◌+◌, Bool, true, false, List, [], ◌∷◌, length, get_or, set, arith, zero, suc, refl}
use Rattle.xdg_problem.specs.Boxes.{Has, LiesIn, without}
use Rattle.xdg_store.specs.States.{remaining}
use Rattle.xdg_facts.specs.Flags.{count_set}

-- each decision has a value
abbrev pub Filled : List (List Bool) → Type 0
Filled box = (d : ℕ) → d < length box → (v : ℕ) × Has box d v

-- ---- one value less

values_taken : (row : List Bool) (v : ℕ) → get_or row v false ≡ true → count_set (set row v false) + 1 ≡ count_set row
values_taken [] v h = cc
values_taken (true ∷ row) zero h = omega arith
values_taken (false ∷ row) zero h = cc
values_taken (true ∷ row) (suc v) h = let e = values_taken row v h in omega (arith, e)
values_taken (false ∷ row) (suc v) h = values_taken row v h

pub remaining_taken : (box : List (List Bool)) (d v : ℕ) → Has box d v → remaining (without box d v) + 1 ≡ remaining box
remaining_taken [] d v h = cc
remaining_taken (row ∷ box) zero v h = let e = values_taken row v h in omega (arith, e)
remaining_taken (row ∷ box) (suc d) v h = let e = remaining_taken box d v h in omega (arith, e)

-- ---- no more than another box

values_inside : (new old : List Bool) → ((v : ℕ) → get_or new v false ≡ true → get_or old v false ≡ true) → count_set new ≤ count_set old
values_inside [] old i = omega arith
values_inside (true ∷ new) [] i = absurd (let q : false ≡ true = i 0 refl in cc)
values_inside (false ∷ new) [] i = values_inside new [] (λ v h. i (suc v) h)
values_inside (true ∷ new) (true ∷ old) i = let e = values_inside new old (λ v h. i (suc v) h) in omega (arith, e)
values_inside (true ∷ new) (false ∷ old) i = absurd (let q : false ≡ true = i 0 refl in cc)
values_inside (false ∷ new) (true ∷ old) i = let e = values_inside new old (λ v h. i (suc v) h) in omega (arith, e)
values_inside (false ∷ new) (false ∷ old) i = values_inside new old (λ v h. i (suc v) h)

pub remaining_inside : (new old : List (List Bool)) → LiesIn new old → remaining new ≤ remaining old
remaining_inside [] old i = omega arith
remaining_inside (row ∷ new) [] i =
    let a : count_set row ≤ 0 = values_inside row [] (λ v h. i 0 v h) in
    let b : remaining new ≤ 0 = remaining_inside new [] (λ d v h. i (suc d) v h) in
    omega (arith, a, b)
remaining_inside (row ∷ new) (other ∷ old) i =
    let a = values_inside row other (λ v h. i 0 v h) in
    let b = remaining_inside new old (λ d v h. i (suc d) v h) in
    omega (arith, a, b)

-- ---- a whole box

some_left : (row : List Bool) (v : ℕ) → get_or row v false ≡ true → 1 ≤ count_set row
some_left [] v h = cc
some_left (true ∷ row) v h = omega arith
some_left (false ∷ row) zero h = cc
some_left (false ∷ row) (suc v) h = some_left row v h

filled_rest : (row : List Bool) (box : List (List Bool)) → Filled (row ∷ box) → Filled box
filled_rest row box f d l = f (suc d) (omega (arith, l))

pub enough_left : (box : List (List Bool)) → Filled box → length box ≤ remaining box
enough_left [] f = omega arith
enough_left (row ∷ box) f =
    let a = some_left row (f 0 (omega arith)).0 (f 0 (omega arith)).1 in
    let b = enough_left box (filled_rest row box f) in
    omega (arith, a, b)

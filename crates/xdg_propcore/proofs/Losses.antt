-- How much is lost, and how much of it wakes.
use Rattle.std.proofs.Common.{◌≡◌, ◌≢◌, ℕ, zero, suc, ◌<◌, ◌≤◌, ◌+◌, ◌^◌, ◌⊎◌, inl, inr, Bool, true, false, cond, List, [], ◌∷◌, length, get_or, refl, ap, sym, ◌∙◌, arith}
use Rattle.std.specs.Prelude.{nat_eq}
use Rattle.std.specs.Int.{bit_at}
use lib.Bits.{bit_and}
use Rattle.std.proofs.lemmas.Bool.Decides.{eqb_tells}
use Rattle.xdg_problem.specs.declared.parts.Parts.{Parts}
use Rattle.xdg_problem.specs.Boxes.{LiesIn}
use Rattle.xdg_propcore.specs.Flags.{IsOn}
use Rattle.xdg_facts.specs.Flags.{count_set}
use Rattle.xdg_propcore.specs.Kinds.{kind_of}
use Rattle.xdg_propcore.specs.Losses.{IsLost, Loses, row_lost, lost_from, wakers, woken_count}
use Rattle.xdg_facts.proofs.Bits.{shared}

-- ---- what remains, weighed

-- a number for each value that remains in a row
abbrev row_weight : ℕ → List Bool → ℕ
row_weight each [] = 0
row_weight each (true ∷ row) = each + row_weight each row
row_weight each (false ∷ row) = row_weight each row

-- for each value that remains the number f of its decision, where the first decision has the number d
abbrev pub weight_from : (ℕ → ℕ) → ℕ → List (List Bool) → ℕ
weight_from f d [] = 0
weight_from f d (row ∷ box) = row_weight (f d) row + weight_from f (suc d) box

abbrev RowIn : List Bool → List Bool → Type 0
RowIn small large = (v : ℕ) → get_or small v false ≡ true → get_or large v false ≡ true

none_in_row : (each : ℕ) (row : List Bool) → RowIn row [] → row_weight each row ≡ 0
none_in_row each [] l = refl
none_in_row each (true ∷ row) l = let h = l 0 refl in cc
none_in_row each (false ∷ row) l = none_in_row each row (λ v h. l (suc v) h)

row_balance : (each : ℕ) (old new : List Bool) → RowIn new old → row_lost each old new + row_weight each new ≡ row_weight each old
row_balance each [] new l = let e = none_in_row each new l in omega (arith, e)
row_balance each (true ∷ old) (true ∷ new) l = let e = row_balance each old new (λ v h. l (suc v) h) in omega (arith, e)
row_balance each (true ∷ old) (false ∷ new) l = let e = row_balance each old new (λ v h. l (suc v) h) in omega (arith, e)
row_balance each (true ∷ old) [] l = let e = row_balance each old [] (λ v h. l (suc v) h) in omega (arith, e)
row_balance each (false ∷ old) (true ∷ new) l = let h = l 0 refl in cc
row_balance each (false ∷ old) (false ∷ new) l = row_balance each old new (λ v h. l (suc v) h)
row_balance each (false ∷ old) [] l = row_balance each old [] (λ v h. l (suc v) h)

none_in_box : (f : ℕ → ℕ) (d : ℕ) (box : List (List Bool)) → LiesIn box [] → weight_from f d box ≡ 0
none_in_box f d [] l = refl
none_in_box f d (row ∷ box) l =
    let e = none_in_row (f d) row (λ v h. l 0 v h) in
    let r = none_in_box f (suc d) box (λ k v h. l (suc k) v h) in
    omega (arith, e, r)

-- what is lost and what remains is what there was
pub balance : (f : ℕ → ℕ) (d : ℕ) (old new : List (List Bool)) → LiesIn new old → lost_from f d old new + weight_from f d new ≡ weight_from f d old
balance f d [] new l = let e = none_in_box f d new l in omega (arith, e)
balance f d (row ∷ old) [] l =
    let e = row_balance (f d) row [] (λ v h. l 0 v h) in
    let r = balance f (suc d) old [] (λ k v h. l (suc k) v h) in
    omega (arith, e, r)
balance f d (row ∷ old) (left ∷ new) l =
    let e = row_balance (f d) row left (λ v h. l 0 v h) in
    let r = balance f (suc d) old new (λ k v h. l (suc k) v h) in
    omega (arith, e, r)

row_lost_one : (each : ℕ) (old new : List Bool) (v : ℕ) → get_or old v false ≡ true → (get_or new v false ≡ true → ⊥) → each ≤ row_lost each old new
row_lost_one each [] new v h n = cc
row_lost_one each (true ∷ old) (true ∷ new) zero h n = absurd (n refl)
row_lost_one each (true ∷ old) (false ∷ new) zero h n = omega arith
row_lost_one each (true ∷ old) [] zero h n = omega arith
row_lost_one each (false ∷ old) new zero h n = cc
row_lost_one each (true ∷ old) (true ∷ new) (suc v) h n = row_lost_one each old new v h n
row_lost_one each (true ∷ old) (false ∷ new) (suc v) h n = let e = row_lost_one each old new v h n in omega (arith, e)
row_lost_one each (true ∷ old) [] (suc v) h n = omega arith
row_lost_one each (false ∷ old) (flag ∷ new) (suc v) h n = row_lost_one each old new v h n
row_lost_one each (false ∷ old) [] (suc v) h n = row_lost_one each old [] v h n

-- a lost value is counted
pub lost_one : (f : ℕ → ℕ) (d : ℕ) (old new : List (List Bool)) (k v : ℕ) → IsLost old new k v → f (d + k) ≤ lost_from f d old new
lost_one f d [] new k v (h, n) = cc
lost_one f d (row ∷ old) [] zero v (h, n) =
    let q : d + 0 ≡ d = omega arith in
    let r = ap f q in
    let e = row_lost_one (f d) row [] v h n in omega (arith, e, r)
lost_one f d (row ∷ old) (left ∷ new) zero v (h, n) =
    let q : d + 0 ≡ d = omega arith in
    let r = ap f q in
    let e = row_lost_one (f d) row left v h n in omega (arith, e, r)
lost_one f d (row ∷ old) [] (suc k) v (h, n) =
    let q : suc d + k ≡ d + suc k = omega arith in
    let r = ap f q in
    let e = lost_one f (suc d) old [] k v (h, n) in omega (arith, e, r)
lost_one f d (row ∷ old) (left ∷ new) (suc k) v (h, n) =
    let q : suc d + k ≡ d + suc k = omega arith in
    let r = ap f q in
    let e = lost_one f (suc d) old new k v (h, n) in omega (arith, e, r)

row_lost_sum : (x y : ℕ) (old new : List Bool) → row_lost (x + y) old new ≡ row_lost x old new + row_lost y old new
row_lost_sum x y [] new = refl
row_lost_sum x y (true ∷ old) (true ∷ new) = row_lost_sum x y old new
row_lost_sum x y (true ∷ old) (false ∷ new) = let e = row_lost_sum x y old new in omega (arith, e)
row_lost_sum x y (true ∷ old) [] = let e = row_lost_sum x y old [] in omega (arith, e)
row_lost_sum x y (false ∷ old) (flag ∷ new) = row_lost_sum x y old new
row_lost_sum x y (false ∷ old) [] = row_lost_sum x y old []

lost_adds : (f g : ℕ → ℕ) (d : ℕ) (old new : List (List Bool)) → lost_from (λ k. f k + g k) d old new ≡ lost_from f d old new + lost_from g d old new
lost_adds f g d [] new = refl
lost_adds f g d (row ∷ old) [] = let e = row_lost_sum (f d) (g d) row [] in let r = lost_adds f g (suc d) old [] in omega (arith, e, r)
lost_adds f g d (row ∷ old) (left ∷ new) = let e = row_lost_sum (f d) (g d) row left in let r = lost_adds f g (suc d) old new in omega (arith, e, r)

-- ---- wake sets

-- whether a set is not empty, as a number
abbrev hit : ℕ → ℕ
hit m = cond (nat_eq m 0) 0 1

-- how many of the wake sets share a kind with the lost ones
abbrev pub hits : List ℕ → ℕ → ℕ
hits [] lost = 0
hits (wakes ∷ sets) lost = hit (bit_and wakes lost) + hits sets lost

hit_cases : (m : ℕ) → ((m ≡ 0) × (hit m ≡ 0)) ⊎ ((m ≢ 0) × (hit m ≡ 1))
hit_cases m = let P : Bool → ℕ = λ b. cond b 0 1 in elim (eqb_tells m 0) [ inl t ↦ inl (t.1, ap P t.0) | inr f ↦ inr (f.1, ap P f.0) ]

-- each that is woken pays with a lost value of its own
pub hits_within : (sets : List ℕ) (lost : ℕ) (parts : Parts) (old new : List (List Bool)) → lost < 2 ^ 64 → Loses parts lost old new → hits sets lost ≤ woken_count parts sets old new
hits_within [] lost parts old new fits loses = omega arith
hits_within (wakes ∷ sets) lost parts old new fits loses =
    let f = λ (d : ℕ). bit_at wakes (kind_of parts d) in
    let g = λ (d : ℕ). wakers sets (kind_of parts d) in
    let r = hits_within sets lost parts old new fits loses in
    let s = lost_adds f g 0 old new in
    let one : hit (bit_and wakes lost) ≤ lost_from f 0 old new = elim (hit_cases (bit_and wakes lost)) [
      | inl z ↦ (let e = z.1 in omega (arith, e))
      | inr n ↦
          let k = shared wakes lost fits n.0 in
          let i = loses.only k.0 k.2 in
          let w = lost_one f 0 old new i.decision i.value i.lost in
          let q : 0 + i.decision ≡ i.decision = omega arith in
          let e = n.1 in
          let v : f (0 + i.decision) ≡ 1 = ap f q ∙ ap (bit_at wakes) i.is ∙ k.1 in
          omega (arith, w, e, v)
    ] in
    omega (arith, r, s, one)

-- no more are awake than were and are woken
pub woken_within : (sets : List ℕ) (lost : ℕ) (old new : List Bool) → length sets ≡ length old → length new ≡ length old → ((at : ℕ) → IsOn new at → (IsOn old at → ⊥) → bit_and (get_or sets at 0) lost ≢ 0) → count_set new ≤ count_set old + hits sets lost
woken_within sets lost old [] e l n = omega arith
woken_within sets lost [] (y ∷ new) e l n = absurd (omega (arith, l))
woken_within [] lost (x ∷ old) (y ∷ new) e l n = absurd (omega (arith, e))
woken_within (wakes ∷ sets) lost (x ∷ old) (y ∷ new) e l n =
    let r = woken_within sets lost old new (omega (arith, e)) (omega (arith, l)) (λ at h k. n (suc at) h k) in
    head x y (λ h k. n 0 h k) r
  where
    head : (x y : Bool) → (y ≡ true → (x ≡ true → ⊥) → bit_and wakes lost ≢ 0) → count_set new ≤ count_set old + hits sets lost → count_set (y ∷ new) ≤ count_set (x ∷ old) + (hit (bit_and wakes lost) + hits sets lost)
    head true false k r = omega (arith, r)
    head false false k r = omega (arith, r)
    head true true k r = omega (arith, r)
    head false true k r = elim (hit_cases (bit_and wakes lost)) [
      | inl z ↦ absurd (k refl (λ s. (let q : true ≡ false = sym s in cc)) z.0)
      | inr f ↦ (let q = f.1 in omega (arith, r, q))
    ]

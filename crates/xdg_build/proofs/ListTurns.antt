-- Turns of loops over lists.
use Rattle.std.proofs.Common.{◌≡◌, ℕ, suc, ◌<◌, ◌+◌, Bool, cond, List, length, get_or, drop, ap, ◌∙◌, arith, eq-eqb}
use Rattle.std.specs.Prelude.{◌==◌}
use Rattle.std.specs.List.{list_any}
use Rattle.std.proofs.lemmas.Bool.{ne_eqb}
use Rattle.std.proofs.Math.Seq.{drop-cons}
use Rattle.xdg_types.specs.Table.{Table}
use Rattle.xdg_build.specs.Grammars.{place_of_used, is_used}

-- ---- places

pub place_here : (used : List ℕ) (k i : ℕ) → i < length used → get_or used i 0 ≡ k → i + place_of_used (drop i used) k ≡ place_of_used used k → i ≡ place_of_used used k
place_here used k i within same so_far =
    let here : place_of_used (drop i used) k ≡ 0 =
    ap (λ s. place_of_used s k) (drop-cons used i 0 within) ∙ ap (λ b. cond b 0 (suc (place_of_used (drop (suc i) used) k))) (eq-eqb (get_or used i 0) k same) in
    omega (arith, here, so_far)

pub place_passed : (used : List ℕ) (k i whole : ℕ) → i < length used → (get_or used i 0 ≡ k → ⊥) → i + place_of_used (drop i used) k ≡ whole → i + 1 + place_of_used (drop (i + 1) used) k ≡ whole
place_passed used k i whole within other so_far =
    let next : i + 1 ≡ suc i = omega arith in
    let later : place_of_used (drop i used) k ≡ suc (place_of_used (drop (suc i) used) k) =
    ap (λ s. place_of_used s k) (drop-cons used i 0 within) ∙ ap (λ b. cond b 0 (suc (place_of_used (drop (suc i) used) k))) (ne_eqb (get_or used i 0) k other) in
    let same : place_of_used (drop (i + 1) used) k ≡ place_of_used (drop (suc i) used) k = ap (λ j. place_of_used (drop j used) k) next in
    omega (arith, later, same, so_far)

-- whether a dimension is used, as the code asks
pub used_told : (used : List ℕ) (lent types : Table) (home : ℕ) (b : Bool) → used ≡ lent.used → lent ≡ types → b ≡ list_any (λ one. one == home) used → b ≡ is_used types home
used_told used lent types home b same types_same is = is ∙ ap (λ us. list_any (λ one. one == home) us) (same ∙ ap (λ (t : Table). t.used) types_same)

-- The box of all values.
use Rattle.std.proofs.Common.{◌≡◌, ℕ, ◌<◌, ◌≤◌, ◌+◌, ◌*◌, ◌/◌, ◌%◌, true, List, [], length, get_or, map, replicate, ap, sym, ◌∙◌, arith, subst}
use Rattle.std.specs.Prelude.{nat_eq, sum}
use Rattle.std.specs.Int.{bit_at}
use Rattle.std.proofs.lemmas.List.{get_or-replicate, length-replicate}
use Rattle.std.proofs.lemmas.Nat.Bits.{bit_at_ones}
use Rattle.xdg_problem.specs.declared.parts.Parts.{Parts}
use Rattle.xdg_problem.specs.Boxes.{IsBox, full}
use Rattle.xdg_problem.specs.Problems.{IsProblem}
use Rattle.xdg_problem.specs.Vectors.{shape}
use Rattle.xdg_trail.specs.Trailed.{Trailed, states}
use Rattle.xdg_store.specs.Layout.{bit_count, bits_of, box_in, is_set}
use Rattle.xdg_store.specs.States.{Keeps, Sound, remaining}
use Rattle.xdg_store.proofs.Apart.{bit_in_range}
use Rattle.xdg_store.proofs.Boxed.{full_is_box, remaining_full}
use Rattle.xdg_store.proofs.Deciding.{own_bits}
use Rattle.xdg_store.proofs.Sizes.{bits_sizes}
use Rattle.xdg_facts.proofs.Rows.{all_rows_set}

pub ones_set : (count b : ℕ) (words : List ℕ) → words ≡ replicate count 18446744073709551615 → b < 64 * count → is_set words b ≡ true
ones_set count b words e l =
    let place : b / 64 < count = omega (arith, l) in
    ap (λ (z : List ℕ). is_set z b) e
    ∙ ap (λ w. nat_eq (bit_at w (b % 64)) 1) (get_or-replicate count (b / 64) 18446744073709551615 0 place)
    ∙ ap (λ m. nat_eq m 1) (bit_at_ones 64 (b % 64) (omega arith))

pub full_words : (parts : Parts) (count : ℕ) (words : List ℕ) → IsProblem parts → bit_count parts ≤ 64 * count → words ≡ replicate count 18446744073709551615 → box_in (bits_of parts) words ≡ full (shape parts)
unfolding box_in
full_words parts count words p l e =
    all_rows_set (is_set words) (bits_of parts) (λ d v k m. ones_set count (get_or (get_or (bits_of parts) d []) v 0) words e (let w = bit_in_range parts p (own_bits k) v m in omega (arith, w, l)))
    ∙ ap (map (λ size. replicate size true)) (bits_sizes parts)

pub keeps_start : (parts : Parts) (t : Trailed) (free count : ℕ) → IsProblem parts → bit_count parts ≤ 64 * count → t.words ≡ replicate count 18446744073709551615 → t.records ≡ [] → free + length (shape parts) ≡ sum (shape parts) → free ≤ t.spare → Keeps parts t
keeps_start parts t free count p l words none all room =
    let box = full_words parts count t.words p l words in
    record {
      problem = p;
      long = (let n = ap length words in let r = length-replicate {A = ℕ} count 18446744073709551615 in omega (arith, n, r, l));
      spare = (let n = ap length none in omega (arith, n, all, room));
      sound = subst (λ rs. Sound (shape parts) (sum (shape parts)) (bits_of parts) (states t.words rs)) (sym none) (
        (let e : remaining (box_in (bits_of parts) t.words) ≡ sum (shape parts) = ap remaining box ∙ remaining_full (shape parts) in omega (arith, e)),
        subst (IsBox (shape parts)) (sym box) (full_is_box parts p),
        tt,
      );
    }

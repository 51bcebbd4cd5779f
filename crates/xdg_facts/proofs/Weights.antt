-- The weights of the bits that are set make up the number.
use Rattle.std.specs.Prelude.{◌≡◌, ℕ, ◌<◌, ◌+◌, ◌*◌, ◌^◌, ◌∷◌, filter}
use Rattle.std.specs.List.{range_with_len}
use Rattle.std.specs.Int.{bit_at}
use Rattle.std.proofs.Common.{◌/◌, zero, suc, ap, sym, ◌∙◌, arith}
use Rattle.std.proofs.Math.Nat.{pow-suc, zero-mul, mul-one}
use Rattle.std.proofs.lemmas.Nat.{pow-add}
use Rattle.std.proofs.lemmas.Nat.Bits.{bit_at-lt}
use Rattle.std.proofs.lemmas.Bool.{cond_both, eqb-true}
use Rattle.xdg_facts.proofs.Numbers.{zero_below_one, unset, doubled_only, doubled}
use Rattle.xdg_facts.proofs.Bits.{halves}
use Rattle.xdg_facts.specs.Rises.{numbers_below}
use Rattle.xdg_facts.specs.BitSets.{is_set, number}

-- from place a on, the weights of the bits that are set make up the number
pub weights : (b m a : ℕ) → b / 2 ^ a < 2 ^ m → number (filter (is_set b) (range_with_len a m)) ≡ b / 2 ^ a * 2 ^ a
unfolding number
weights b zero a within = sym (ap (λ q. q * 2 ^ a) (zero_below_one (b / 2 ^ a) within) ∙ zero-mul (2 ^ a))
weights b (suc m) a within =
    let e = halves b a in
    let w : b / 2 ^ (a + 1) < 2 ^ m = omega (arith, e, within, pow-suc 2 m) in
    let rest : number (filter (is_set b) (range_with_len (a + 1) m))
    ≡ b / 2 ^ (a + 1) * (2 ^ a * 2) = weights b m (a + 1) w ∙ ap (λ p. b / 2 ^ (a + 1) * p) (pow-add 2 a 1) in
    cond_both (is_set b a) (a ∷ filter (is_set b) (range_with_len (a + 1) m)) (filter (is_set b) (range_with_len (a + 1) m)) (λ s. number s ≡ b / 2 ^ a * 2 ^ a)
    (λ t. ap (λ z. 2 ^ a + z) rest ∙ doubled (b / 2 ^ (a + 1)) (2 ^ a) ∙ ap (λ z. (b / 2 ^ (a + 1) * 2 + z) * 2 ^ a) (sym (eqb-true (bit_at b a) 1 t))
    ∙ ap (λ z. z * 2 ^ a) (sym e))
    (λ t. rest ∙ doubled_only (b / 2 ^ (a + 1)) (2 ^ a) ∙ ap (λ z. (b / 2 ^ (a + 1) * 2 + z) * 2 ^ a) (sym (unset (bit_at b a) (bit_at-lt b a) t))
    ∙ ap (λ z. z * 2 ^ a) (sym e))

pub same_number : (b bound : ℕ) → b < 2 ^ bound → number (numbers_below bound (is_set b)) ≡ b
unfolding numbers_below
same_number b bound within = weights b bound 0 (rw (whole b) within) ∙ ap (λ q. q * 1) (whole b) ∙ mul-one b
  where
    whole : (q : ℕ) → q / 2 ^ 0 ≡ q
    whole q = omega arith

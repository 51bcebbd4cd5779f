-- Two words side by side, as one number.
use Rattle.std.proofs.Common.{◌≡◌, ℕ, ◌<◌, ◌≤◌, ◌-◌, ◌*◌, ◌%◌, ◌^◌, ap, sym, ◌∙◌, arith, inl, inr, bit_or}
use Rattle.std.specs.Prelude.{false, ◌==◌, cond}
use Rattle.std.specs.Int.{bit_at}
use Rattle.std.proofs.lemmas.Bool.{cases_lt, lt-ltb, le-ltb}
use Rattle.std.proofs.lemmas.Nat.Bits.{bit_at_above}
use Rattle.xdg_nodeset.specs.Words.{in_words}
use Rattle.xdg_facts.specs.Rises.{has}
use Rattle.xdg_facts.specs.BitSets.{is_set, members}
use Rattle.xdg_facts.proofs.Rising.{has_of, has_beyond}
use Rattle.xdg_facts.proofs.Bits.{joined_low, joined_high}

joined_bit : (low high n : ℕ) → low < 2 ^ 64 → high < 2 ^ 64 → is_set (bit_or low (high * 2 ^ 64 % 2 ^ 128)) n ≡ in_words low high n
joined_bit low high n l h = elim (cases_lt n 64) [
  | inl below ↦ ap (λ z. z == 1) (joined_low low high n l h below) ∙ sym (ap (λ t. cond t (bit_at low n == 1) (bit_at high (n - 64) == 1)) (lt-ltb n 64 below))
  | inr above ↦ ap (λ z. z == 1) (joined_high low high n l h above) ∙ sym (ap (λ t. cond t (bit_at low n == 1) (bit_at high (n - 64) == 1)) (le-ltb n 64 above))
]

none_above : (low high n : ℕ) → high < 2 ^ 64 → 128 ≤ n → in_words low high n ≡ false
none_above low high n h above =
    ap (λ t. cond t (bit_at low n == 1) (bit_at high (n - 64) == 1)) (le-ltb n 64 (omega (arith, above)))
    ∙ ap (λ z. z == 1) (bit_at_above high 64 (n - 64) h (omega (arith, above)))

pub joined_has : (low high n : ℕ) → low < 2 ^ 64 → high < 2 ^ 64 → has (members (bit_or low (high * 2 ^ 64 % 2 ^ 128))) n ≡ in_words low high n
joined_has low high n l h = elim (cases_lt n 128) [
  | inl below ↦ has_of 128 (is_set (bit_or low (high * 2 ^ 64 % 2 ^ 128))) n below ∙ joined_bit low high n l h
  | inr above ↦ has_beyond 128 (is_set (bit_or low (high * 2 ^ 64 % 2 ^ 128))) n above ∙ sym (none_above low high n h above)
]

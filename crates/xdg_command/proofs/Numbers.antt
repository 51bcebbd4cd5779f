-- Numbers of one to ten digits.
use Rattle.std.proofs.Common.{◌≡◌, ◌∙◌, ◌&&◌, ◌≤◌, ◌<◌, ◌^◌, ℕ, true, List, length, Result, Ok, Err, refl, sym, subst, arith}
use Rattle.std.specs.List.{list_all}
use Rattle.std.specs.Prelude.{nat_le}
use Rattle.std.specs.Char.{is_ascii_digit}
use Rattle.std.specs.Result.{OkIff}
use Rattle.std.specs.Str.Parse.{ParsesUnsigned, digits_value}
use Rattle.std.proofs.lemmas.Bool.{leb-true, le-leb}
use Rattle.std.proofs.lemmas.Str.Parse.{IsDigitsTest, numerals_by_value, parse_digits}
use Rattle.clap.proofs.WalkLemmas.{both}
use Rattle.xdg_command.specs.Commands.{IsNumber}

tells_digits : IsDigitsTest (λ ds. list_all is_ascii_digit ds ≡ true)
tells_digits = record {
  empty = refl;
  parts = λ c cs e. let k = both (is_ascii_digit c) (list_all is_ascii_digit cs) e in let m = both (nat_le 48 c) (nat_le c 57) k.0 in ((leb-true 48 c m.0, leb-true c 57 m.1), k.1);
  more = λ c cs k e i. (le-leb 48 c k.0 i && le-leb c 57 k.1 i) && e i;
}

module _ {E : Type 0} (least most : ℕ) (text : List ℕ) (r : Result ℕ E) (digits : list_all is_ascii_digit text ≡ true) (parses : ParsesUnsigned 64 10 text r) where
  means : OkIff r ((0 < length text) × (digits_value 10 text < 2 ^ 64)) (digits_value 10 text)
  means = parse_digits (numerals_by_value _ tells_digits) 64 text r parses digits

  pub read_number : (n : ℕ) → Ok n ≡ r → length text ≤ 10 → least ≤ n → n ≤ most
      → IsNumber least most text n × ((b : ℕ) → IsNumber least most text b → b ≡ n)
  read_number n is ten above below =
      let told = subst (λ x. OkIff x ((0 < length text) × (digits_value 10 text < 2 ^ 64)) (digits_value 10 text)) (sym is) means in
      (record { digits = digits; some = omega (arith, told.0.0); ten = ten; value = told.1; above = above; below = below }, λ b number. number.value ∙ sym told.1)

  pub no_number : (e : E) → Err e ≡ r → most < 2 ^ 64 → (b : ℕ) → IsNumber least most text b → ⊥
  no_number e is fits b number =
      let told = subst (λ x. OkIff x ((0 < length text) × (digits_value 10 text < 2 ^ 64)) (digits_value 10 text)) (sym is) means in
      told (omega (arith, number.some), omega (arith, number.value, number.below, fits))

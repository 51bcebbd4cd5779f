-- Numbers are read as they are written.
use Rattle.std.proofs.Common.{◌≡◌, ◌<◌, ◌≤◌, ◌++◌, ◌+◌, ◌*◌, ◌-◌, ◌/◌, ◌%◌, ◌^◌, ◌&&◌, min, ℕ, List, [], ◌∷◌, refl, sym, ap, ◌∙◌, arith, cond, Some, None, decimal, nat_le, bytes_eq}
use Rattle.std.proofs.lemmas.Bool.{and_parts, and_from, le-leb, leb-true}
use Rattle.std.proofs.lemmas.Fmt.{decimal_by_steps, decimal_is_IsNumeral}
use Rattle.std.proofs.lemmas.Slice.Eq.{bytes_eq-Decides}
use Rattle.std.proofs.lemmas.Str.Parse.{digit_at}
use Rattle.std.specs.Str.Parse.{AllDigits}
use Rattle.xdg_reading.specs.Pieces.{after, and, until, value_from, value_of, number_of, number_at, ordinal_at}
use Rattle.xdg_reading.proofs.Fronts.{until_it, until_stands}
use Rattle.xdg_reading.proofs.Steps.{pair, after_found, and_found}
use Rattle.xdg_facts.proofs.Texts.{equal}
use Rattle.xdg_facts.proofs.Options.{some_same, cond_found}

abbrev greatest : ℕ
greatest = 18446744073709551615

value_append : (value digit : ℕ) (digits : List ℕ) → value_from value (digits ++ digit ∷ []) ≡ min (value_from value digits * 10 + (digit - 48)) greatest
value_append value digit [] = refl
value_append value digit (d ∷ digits) = value_append (min (value * 10 + (d - 48)) greatest) digit digits

-- the digits of a number have its value
pub value_decimal : (n : ℕ) → n ≤ greatest → value_from 0 (decimal n) ≡ n
value_decimal n small = decimal_by_steps (λ m ds. m ≤ greatest → value_from 0 ds ≡ m) one more n (omega (arith, small)) small where
  one : (m : ℕ) → m < 10 → m ≤ greatest → value_from 0 ((48 + m) ∷ []) ≡ m
  one m digit small = omega (arith, digit)

  more : (m : ℕ) (ds : List ℕ) → 10 ≤ m → (m / 10 ≤ greatest → value_from 0 ds ≡ m / 10) → m ≤ greatest → value_from 0 (ds ++ ((48 + m % 10) ∷ [])) ≡ m
  more m ds large before small =
      let fewer : m / 10 ≤ greatest = omega (arith, small) in
      value_append 0 (48 + m % 10) ds ∙ ap (λ v. min (v * 10 + ((48 + m % 10) - 48)) greatest) (before fewer) ∙ omega (arith, small)

digits_decimal : (n : ℕ) → n < 2 ^ 64 → AllDigits 10 (decimal n)
digits_decimal n small = (decimal_is_IsNumeral n small).0.1

digits_end : (n end : ℕ) (rest : List ℕ) → n < 2 ^ 64 → end < 48 → until end (decimal n ++ end ∷ rest) ≡ Some (decimal n, rest)
digits_end n end rest small low = until_it end (decimal n) rest (λ i within e. let range = digit_at (decimal n) i (digits_decimal n small) within in omega (arith, range.0, e, low))

number_is : (least most n : ℕ) → least ≤ n → n ≤ most → n ≤ greatest → number_of least most (decimal n) ≡ Some n
unfolding number_of value_of
number_is least most n low high small =
    let v : value_of (decimal n) ≡ n = value_decimal n small in
    ap (λ v. cond (bytes_eq (decimal v) (decimal n) && nat_le least v && nat_le v most) (Some v) None) v
    ∙ ap (λ t. cond t (Some n) None) (and_from (bytes_eq (decimal n) (decimal n) && nat_le least n) (nat_le n most) (and_from (bytes_eq (decimal n) (decimal n)) (nat_le least n) (equal (decimal n)) (le-leb least n low)) (le-leb n most high))

-- a number is read from its digits
pub number_read : (end least most n : ℕ) (rest : List ℕ) → end < 48 → least ≤ n → n ≤ most → most < 2 ^ 64 → number_at end least most (decimal n ++ end ∷ rest) ≡ Some (n, rest)
unfolding number_at
number_read end least most n rest ends low high small =
    let within : n < 2 ^ 64 = omega (arith, high, small) in
    ap (λ o. after o (λ digits rest. and (number_of least most digits) rest)) (digits_end n end rest within ends)
    ∙ ap (λ o. and o rest) (number_is least most n low high (omega (arith, within)))

-- what is read as a number
pub record IsNumber (end least most n : ℕ) (bytes rest : List ℕ) : Type 0 where
  pub parts : bytes ≡ decimal n ++ end ∷ rest
  pub low : least ≤ n
  pub high : n ≤ most

is_number : (end least most : ℕ) (digits bytes left : List ℕ) (m n : ℕ) (rest : List ℕ) → bytes ≡ digits ++ end ∷ left → number_of least most digits ≡ Some m → pair m left ≡ pair n rest → IsNumber end least most n bytes rest
unfolding number_of
is_number end least most digits bytes left m n rest parts found both =
    let kept = cond_found (bytes_eq (decimal (value_of digits)) digits && nat_le least (value_of digits) && nat_le (value_of digits) most) (value_of digits) m found in
    let bounds = and_parts (bytes_eq (decimal (value_of digits)) digits && nat_le least (value_of digits)) (nat_le (value_of digits) most) kept.0 in
    let tests = and_parts (bytes_eq (decimal (value_of digits)) digits) (nat_le least (value_of digits)) bounds.0 in
    let value : value_of digits ≡ n = kept.1 ∙ ap (λ (p : ℕ × List ℕ). p.0) both in
    let written : decimal (value_of digits) ≡ digits = (bytes_eq-Decides (decimal (value_of digits)) digits).0 tests.0 in
    let last : left ≡ rest = ap (λ (p : ℕ × List ℕ). p.1) both in
    let low : least ≤ value_of digits = leb-true least (value_of digits) tests.1 in
    let high : value_of digits ≤ most = leb-true (value_of digits) most bounds.1 in
    record {
      parts = parts ∙ ap (λ z. z ++ end ∷ left) (sym written) ∙ ap (λ k. decimal k ++ end ∷ left) value ∙ ap (λ z. decimal n ++ end ∷ z) last;
      low = omega (arith, low, value);
      high = omega (arith, high, value);
    }

-- and nothing else is
pub number_spelled : (end least most n : ℕ) (bytes rest : List ℕ) → number_at end least most bytes ≡ Some (n, rest) → IsNumber end least most n bytes rest
unfolding number_at
number_spelled end least most n bytes rest read =
    let cut = after_found (until end bytes) (λ digits rest. and (number_of least most digits) rest) (n, rest) read in
    let kept = and_found (number_of least most cut.value) cut.rest (n, rest) cut.goes in
    is_number end least most cut.value bytes cut.rest kept.0 n rest (until_stands end bytes cut.value cut.rest cut.is) kept.1 kept.2

-- a number that counts from 1
pub ordinal_read : (end most n : ℕ) (rest : List ℕ) → end < 48 → n < most → most < 2 ^ 64 → ordinal_at end most (decimal (n + 1) ++ end ∷ rest) ≡ Some (n, rest)
unfolding ordinal_at
ordinal_read end most n rest ends high small =
    ap (λ o. after o (λ number rest. Some (number - 1, rest))) (number_read end 1 most (n + 1) rest ends (omega arith) (omega (arith, high)) small)
    ∙ ap (λ k. Some (k, rest)) (omega arith)

pub record IsOrdinal (end most n : ℕ) (bytes rest : List ℕ) : Type 0 where
  pub parts : bytes ≡ decimal (n + 1) ++ end ∷ rest
  pub within : n < most

pub ordinal_spelled : (end most n : ℕ) (bytes rest : List ℕ) → ordinal_at end most bytes ≡ Some (n, rest) → IsOrdinal end most n bytes rest
unfolding ordinal_at
ordinal_spelled end most n bytes rest read =
    let found = after_found (number_at end 1 most bytes) (λ number rest. Some (number - 1, rest)) (n, rest) read in
    let number = number_spelled end 1 most found.value bytes found.rest found.is in
    let low = number.low in
    let high = number.high in
    let both = some_same (found.value - 1, found.rest) (n, rest) found.goes in
    let first : found.value - 1 ≡ n = ap (λ (p : ℕ × List ℕ). p.0) both in
    let last : found.rest ≡ rest = ap (λ (p : ℕ × List ℕ). p.1) both in
    let value : found.value ≡ n + 1 = omega (arith, low, first) in
    record { parts = number.parts ∙ ap (λ k. decimal k ++ end ∷ found.rest) value ∙ ap (λ z. decimal (n + 1) ++ end ∷ z) last; within = omega (arith, high, value) }

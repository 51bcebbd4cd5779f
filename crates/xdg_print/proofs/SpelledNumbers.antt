-- Numbers, as they are read.
use Rattle.std.proofs.Common.{◌≡◌, ℕ, ◌+◌, ◌-◌, ◌/◌, ◌%◌, ◌<◌, ◌≤◌, true, List, [], ◌∷◌, ◌++◌, length, refl, ◌∙◌, ap, arith, length-append}
use Rattle.std.specs.Prelude.{decimal}
use Rattle.std.specs.Char.{is_ascii, is_ascii_digit}
use Rattle.std.specs.List.{list_all}
use Rattle.std.proofs.lemmas.Bool.{and_parts, and_from}
use Rattle.std.proofs.lemmas.Fmt.{decimal_by_steps}
use Rattle.std.proofs.lemmas.List.Folds.{list_all-append}
use Rattle.xdg_ast.specs.declared.token.Kind.TheVariants as k
use Rattle.xdg_ast.specs.Contents.{with_digit, value_from, value_of}
use Rattle.xdg_ast.specs.Lexemes.{lexeme}
use Rattle.xdg_ast.specs.Tokenizes.{StopsBefore, IsToken, number, value_after, greatest_number}
use Rattle.xdg_ast.specs.Words.{Word, word_of, IsSpellable}
use Rattle.xdg_print.proofs.SpelledTexts.{each_passes}
use Rattle.xdg_print.proofs.SpelledNames.{Says, says_more, continue_ascii, digit_continues}
use Rattle.xdg_lex.proofs.Pending.{value_more}
use Rattle.xdg_facts.proofs.Encoded.{AreBytesOf, ascii_bytes, weaker_test}

from_append : (value : ℕ) (cs : List ℕ) (c : ℕ) → value_from value (cs ++ c ∷ []) ≡ with_digit (value_from value cs) c
from_append value [] c = refl
from_append value (d ∷ cs) c = from_append (with_digit value d) cs c

-- digits that write a number which is not too great
record AreDigitsOf (n : ℕ) (digits : List ℕ) : Type 0 where
  digits_only : list_all is_ascii_digit digits ≡ true
  some_digits : 0 < length digits
  after : value_after 0 digits ≡ n
  from : n ≤ greatest_number → value_from 0 digits ≡ n

is_digit : (n : ℕ) → n < 10 → is_ascii_digit (48 + n) ≡ true
is_digit n small = grind (arith, small)

one_digit : (n : ℕ) → n < 10 → AreDigitsOf n ((48 + n) ∷ [])
one_digit n small = record {
  digits_only = and_from (is_ascii_digit (48 + n)) true (is_digit n small) refl;
  some_digits = omega arith;
  after = omega arith;
  from = λ fits. omega arith;
}

more_digits : (n : ℕ) (digits : List ℕ) → 10 ≤ n → AreDigitsOf (n / 10) digits → AreDigitsOf n (digits ++ (48 + n % 10) ∷ [])
more_digits n digits great front =
    let last : n % 10 < 10 = omega arith in
    record {
      digits_only = list_all-append is_ascii_digit digits ((48 + n % 10) ∷ []) ∙ and_from (list_all is_ascii_digit digits) _ front.digits_only (and_from (is_ascii_digit (48 + n % 10)) true (is_digit (n % 10) last) refl);
      some_digits = omega (arith, length-append digits ((48 + n % 10) ∷ []));
      after = omega (arith, value_more 0 digits (48 + n % 10), front.after);
      from = λ fits. omega (arith, fits, from_append 0 digits (48 + n % 10), front.from (omega (arith, fits)));
    }

decimal_digits : (n : ℕ) → n ≤ greatest_number → AreDigitsOf n (decimal n)
decimal_digits n fits = decimal_by_steps AreDigitsOf one_digit more_digits n (omega (arith, fits))

pub decimal_bytes : (n : ℕ) → n ≤ greatest_number → AreBytesOf (decimal n) (decimal n)
decimal_bytes n fits = ascii_bytes (decimal n) (weaker_test is_ascii_digit is_ascii (λ c b. continue_ascii c (digit_continues c b)) (decimal n) (decimal_digits n fits).digits_only)

digits_token : (cs behind : List ℕ) (n : ℕ) → AreDigitsOf n cs → n ≤ greatest_number → StopsBefore is_ascii_digit behind → (at : ℕ) → IsToken at k.Number cs 0 behind
digits_token [] behind n are fits stops at = absurd (omega (arith, are.some_digits))
digits_token (c ∷ cs) behind n are fits stops at =
    let parts = and_parts (is_ascii_digit c) (list_all is_ascii_digit cs) are.digits_only in
    let value : value_after (c - 48) cs ≡ n = ap (λ v. value_after v cs) (omega arith) ∙ are.after in
    number c cs behind parts.0 (each_passes is_ascii_digit cs parts.1) stops (omega (arith, value, fits))

value_same : (n : ℕ) → n ≤ greatest_number → value_of (decimal n) ≡ n
unfolding value_of
value_same n fits = (decimal_digits n fits).from fits

-- a number is read
pub number_says : (n : ℕ) (behind : List ℕ) (words : List Word) → n ≤ greatest_number → StopsBefore is_ascii_digit behind → Says behind words
    → Says (decimal n ++ behind) (record { kind = k.Number; content = []; value = n } ∷ words)
number_says n behind words fits stops more =
    says_more k.Number (decimal n) behind 0 (record { kind = k.Number; content = []; value = n }) words (digits_token (decimal n) behind n (decimal_digits n fits) fits stops) (omega arith)
    (λ at. ap (λ value. record { kind = k.Number; content = []; value = value }) (ap value_of (decimal_bytes n fits).encoded ∙ value_same n fits)) more

-- ---- what is said by a token of a number

from_small : (value : ℕ) (digits : List ℕ) → value ≤ 4294967295 → value_from value digits ≤ 4294967295
from_small value [] small = small
from_small value (c ∷ cs) small = from_small (with_digit value c) cs (omega arith)

value_small : (digits : List ℕ) → value_of digits ≤ 4294967295
unfolding value_of
value_small digits = from_small 0 digits (omega arith)

-- the word of a number can be spelled
pub number_spelled : (at : ℕ) (text : List ℕ) → IsSpellable (word_of (lexeme k.Number at text))
number_spelled at text = (refl, value_small text)

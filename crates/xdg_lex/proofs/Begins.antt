-- Which piece a character begins.
use Rattle.std.proofs.Common.{◌≡◌, ℕ, ◌-◌, ◌<◌, ◌≤◌, ◌==◌, true, false, Ok, Err, ◌∙◌, ap, arith}
use Rattle.std.specs.Char.{is_whitespace, is_ascii_digit}
use Rattle.std.proofs.lemmas.Bool.{cond-true, cond-false}
use Rattle.xdg_base.specs.Faults.{fault_at}
use Rattle.xdg_base.specs.declared.faults.Cause.TheVariants as causes
use Rattle.xdg_lex.specs.declared.pieces.Mode.TheVariants as in_
use Rattle.xdg_base.specs.Spelling.{begins_name}
use Rattle.xdg_lex.specs.Pieces.{begins, sign_begins}
use Rattle.xdg_lex.specs.Offends.{BeginsNothing}

pub begins_white : (at c : ℕ) → is_whitespace c ≡ true → begins at c ≡ Ok in_.Between
unfolding begins
begins_white at c w = cond-true (is_whitespace c) _ _ w

not_white : (c : ℕ) → 48 ≤ c → c ≤ 122 → is_whitespace c ≡ false
not_white c low high = grind (arith, low, high)

no_mark : (c n : ℕ) → n < c → (c == n) ≡ false
no_mark c n h = grind (arith, h)

name_low : (c : ℕ) → begins_name c ≡ true → 65 ≤ c
name_low c b = grind (arith, b)

name_high : (c : ℕ) → begins_name c ≡ true → c ≤ 122
name_high c b = grind (arith, b)

digit_low : (c : ℕ) → is_ascii_digit c ≡ true → 48 ≤ c
digit_low c b = grind (arith, b)

digit_high : (c : ℕ) → is_ascii_digit c ≡ true → c ≤ 57
digit_high c b = grind (arith, b)

digit_no_name : (c : ℕ) → is_ascii_digit c ≡ true → begins_name c ≡ false
digit_no_name c b = grind (arith, digit_low c b, digit_high c b)

pub begins_named : (at c : ℕ) → begins_name c ≡ true → begins at c ≡ Ok in_.Name
unfolding begins
begins_named at c b =
    let low : 65 ≤ c = name_low c b in
    let high : c ≤ 122 = name_high c b in
    cond-false (is_whitespace c) _ _ (not_white c (omega (arith, low)) high) ∙ cond-false (c == 37) _ _ (no_mark c 37 (omega (arith, low))) ∙ cond-false (c == 47) _ _ (no_mark c 47 (omega (arith, low)))
    ∙ cond-false (c == 34) _ _ (no_mark c 34 (omega (arith, low))) ∙ cond-true (begins_name c) _ _ b

pub begins_number : (at c : ℕ) → is_ascii_digit c ≡ true → begins at c ≡ Ok (in_.Number (c - 48))
unfolding begins
begins_number at c b =
    let low : 48 ≤ c = digit_low c b in
    let high : c ≤ 57 = digit_high c b in
    cond-false (is_whitespace c) _ _ (not_white c low (omega (arith, high))) ∙ cond-false (c == 37) _ _ (no_mark c 37 (omega (arith, low))) ∙ cond-false (c == 47) _ _ (no_mark c 47 (omega (arith, low)))
    ∙ cond-false (c == 34) _ _ (no_mark c 34 (omega (arith, low))) ∙ cond-false (begins_name c) _ _ (digit_no_name c b) ∙ cond-true (is_ascii_digit c) _ _ b

pub begins_nothing : (at c : ℕ) → (c == 47) ≡ false → BeginsNothing c → begins at c ≡ Err (fault_at causes.BadChar at)
unfolding begins
begins_nothing at c s none =
    cond-false (is_whitespace c) _ _ none.no_white ∙ cond-false (c == 37) _ _ none.no_line ∙ cond-false (c == 47) _ _ s
    ∙ cond-false (c == 34) _ _ none.no_quoted ∙ cond-false (begins_name c) _ _ none.no_name ∙ cond-false (is_ascii_digit c) _ _ none.no_number
    ∙ ap (sign_begins at) none.no_sign

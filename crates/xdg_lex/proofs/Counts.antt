-- The content of a quoted text is at most its bytes.
use Rattle.std.proofs.Common.{◌≡◌, ℕ, ◌+◌, ◌-◌, ◌*◌, ◌≤◌, ◌==◌, ◌||◌, Option, Some, None, Result, Ok, Err, refl, subst, arith}
use Rattle.std.specs.Prelude.{nat_le}
use Rattle.std.specs.Char.{is_whitespace, is_ascii_digit, len_utf8}
use Rattle.std.proofs.lemmas.Bool.{cond_both}
use Rattle.std.proofs.lemmas.Str.{len_utf8_bounds}
use Rattle.xdg_base.specs.declared.faults.Fault.{Fault}
use Rattle.xdg_ast.specs.declared.token.Kind.{Kind}
use Rattle.xdg_lex.specs.declared.pieces.Mode.{Mode}
use Rattle.xdg_lex.specs.declared.pieces.Mode.TheVariants as in_
use Rattle.xdg_lex.specs.declared.pieces.Turn.{Turn}
use Rattle.xdg_base.specs.Spelling.{begins_name, continues_name}
use Rattle.xdg_ast.specs.Kinds.{sign_of}
use Rattle.xdg_lex.specs.Pieces.{goes_on, digit_goes_on, quoted_goes_on, escape_goes_on, begins, sign_begins, counted, counted_after}

abbrev Within : ℕ → Turn → Type 0
Within place turn = counted_after turn ≤ place

pub goes_on_within : (mode : Mode) (at c : ℕ) → counted mode ≤ at → counted_after (goes_on mode at c) ≤ at + len_utf8 c
unfolding goes_on digit_goes_on quoted_goes_on escape_goes_on
goes_on_within in_.Name at c h = cond_both (continues_name c) _ _ (Within (at + len_utf8 c)) (λ _. omega arith) (λ _. omega arith)
goes_on_within (in_.Number value) at c h =
    cond_both (is_ascii_digit c) _ _ (Within (at + len_utf8 c)) (λ _. cond_both (nat_le (value * 10 + (c - 48)) 4294967295) _ _ (Within (at + len_utf8 c)) (λ _. omega arith) (λ _. omega arith)) (λ _. omega arith)
goes_on_within (in_.Quoted read) at c h =
    cond_both (c == 34) _ _ (Within (at + len_utf8 c)) (λ _. omega (arith, h))
    (λ _. cond_both (c == 92) _ _ (Within (at + len_utf8 c)) (λ _. omega (arith, h, len_utf8_bounds c)) (λ _. omega (arith, h)))
goes_on_within (in_.Escape read backslash) at c h = cond_both (c == 34 || c == 92) _ _ (Within (at + len_utf8 c)) (λ _. omega (arith, h)) (λ _. omega (arith, h))
goes_on_within in_.LineComment at c h = cond_both (c == 10) _ _ (λ m. counted m ≤ at + len_utf8 c) (λ _. omega arith) (λ _. omega arith)
goes_on_within in_.Slash at c h = cond_both (c == 42) _ _ (Within (at + len_utf8 c)) (λ _. omega arith) (λ _. omega arith)
goes_on_within in_.Comment at c h = cond_both (c == 42) _ _ (λ m. counted m ≤ at + len_utf8 c) (λ _. omega arith) (λ _. omega arith)
goes_on_within in_.CommentStar at c h =
    cond_both (c == 47) _ _ (λ m. counted m ≤ at + len_utf8 c) (λ _. omega arith) (λ _. cond_both (c == 42) _ _ (λ m. counted m ≤ at + len_utf8 c) (λ _. omega arith) (λ _. omega arith))
goes_on_within mode at c h = omega arith

-- nothing was read inside a quoted text that begins
abbrev BeginsWithNothing : Result Mode Fault → Type 0
BeginsWithNothing (Ok mode) = counted mode ≡ 0
BeginsWithNothing (Err fault) = Unit {0}

sign_begins_so : (at : ℕ) (sign : Option Kind) → BeginsWithNothing (sign_begins at sign)
sign_begins_so at (Some sign) = refl
sign_begins_so at None = tt

begins_so : (at c : ℕ) → BeginsWithNothing (begins at c)
unfolding begins
begins_so at c =
    cond_both (is_whitespace c) _ _ BeginsWithNothing (λ _. refl)
    (λ _. cond_both (c == 37) _ _ BeginsWithNothing (λ _. refl)
    (λ _. cond_both (c == 47) _ _ BeginsWithNothing (λ _. refl)
    (λ _. cond_both (c == 34) _ _ BeginsWithNothing (λ _. refl)
    (λ _. cond_both (begins_name c) _ _ BeginsWithNothing (λ _. refl)
    (λ _. cond_both (is_ascii_digit c) _ _ BeginsWithNothing (λ _. refl)
    (λ _. sign_begins_so at (sign_of c)))))))

pub begins_within : (at c : ℕ) (mode : Mode) → begins at c ≡ Ok mode → counted mode ≤ at + len_utf8 c
begins_within at c mode e =
    let none : counted mode ≡ 0 = subst BeginsWithNothing e (begins_so at c) in
    omega (arith, none)

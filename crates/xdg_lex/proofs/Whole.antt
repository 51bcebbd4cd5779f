-- The first bytes that are no character.
use Rattle.std.proofs.Common.{◌≡◌, ℕ, List, Err, sym, ◌∙◌, ap}
use Rattle.std.specs.Prelude.{if◌then◌else◌}
use Rattle.std.specs.Str.{chars, is_utf8, IsUtf8}
use Rattle.std.specs.Str.Lossy.{utf8_valid_len}
use Rattle.std.proofs.lemmas.Bool.{false_from_ne_true}
use Rattle.std.proofs.lemmas.Str.{is_utf8-from_IsUtf8, IsUtf8-from_is_utf8}
use Rattle.xdg_base.specs.Faults.{fault_at}
use Rattle.xdg_base.specs.declared.faults.Cause.TheVariants as causes
use Rattle.xdg_lex.specs.Lexed.{lexed, lexed_characters}

pub all_characters : (bytes : List ℕ) → IsUtf8 bytes → lexed bytes ≡ lexed_characters (chars bytes)
unfolding lexed
all_characters bytes u = ap (λ b. if b then lexed_characters (chars bytes) else Err (fault_at causes.BadUtf8 (utf8_valid_len bytes))) (is_utf8-from_IsUtf8 bytes u)

pub not_all_characters : (bytes : List ℕ) (place : ℕ) → (IsUtf8 bytes → ⊥) → place ≡ utf8_valid_len bytes → lexed bytes ≡ Err (fault_at causes.BadUtf8 place)
unfolding lexed
not_all_characters bytes place u e =
    ap (λ b. if b then lexed_characters (chars bytes) else Err (fault_at causes.BadUtf8 (utf8_valid_len bytes))) (false_from_ne_true (is_utf8 bytes) (λ t. u (IsUtf8-from_is_utf8 bytes t)))
    ∙ ap (λ p. Err (fault_at causes.BadUtf8 p)) (sym e)

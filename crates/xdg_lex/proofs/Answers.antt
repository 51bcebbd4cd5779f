-- What a text is answered, and that no other answer is right.
use Rattle.std.proofs.Common.{◌≡◌, ℕ, Ok, Err, List, [], refl, sym, ◌∙◌, subst}
use Rattle.std.specs.Prelude.{Result}
use Rattle.std.specs.Str.{chars, IsUtf8, IsValidUpTo}
use Rattle.std.proofs.lemmas.Str.{utf8_valid_len-IsValidUpTo}
use Rattle.xdg_base.specs.Faults.{fault_at}
use Rattle.xdg_base.specs.declared.faults.Fault.{Fault}
use Rattle.xdg_base.specs.declared.faults.Cause.TheVariants as causes
use Rattle.xdg_base.specs.declared.faults.Stop.{Stop}
use Rattle.xdg_base.specs.declared.faults.Stop.TheVariants as stops
use Rattle.xdg_base.specs.Told.{Gives, answer_of}
use Rattle.xdg_ast.specs.Lexemes.{lexemes_of}
use Rattle.xdg_ast.specs.declared.token.Token.{Token}
use Rattle.xdg_lex.specs.Lexed.{Lexed, lexed, lexed_characters}
use Rattle.xdg_lex.specs.Offends.{IsRefused, no_text, no_tokens, IsAnswer, Tells}
use Rattle.xdg_lex.proofs.Sound as sound
use Rattle.xdg_lex.proofs.Complete.{tokens_read, offences_read}
use Rattle.xdg_lex.proofs.Whole.{all_characters, not_all_characters}

-- each answer that is right is what is read
pub answer_read : (bytes : List ℕ) (answer : Lexed) → IsAnswer bytes answer → lexed bytes ≡ answer
answer_read bytes (Ok tokens) (u, spelled) = all_characters bytes u ∙ tokens_read 0 (chars bytes) tokens spelled 0 [] refl
answer_read bytes (Err fault) (no_text at none valid) = not_all_characters bytes at none (sym (utf8_valid_len-IsValidUpTo bytes at valid))
answer_read bytes (Err fault) (no_tokens why u offends) = all_characters bytes u ∙ offences_read 0 (chars bytes) fault offends 0 [] refl

-- a text has one answer
pub one_answer : (bytes : List ℕ) (one other : Lexed) → IsAnswer bytes one → IsAnswer bytes other → one ≡ other
one_answer bytes one other a b = sym (answer_read bytes one a) ∙ answer_read bytes other b

pub only_answer : (bytes : List ℕ) (answer : Lexed) (result : Result (List Token) Stop) → IsAnswer bytes answer → Tells bytes result → Gives answer (answer_of lexemes_of result)
only_answer bytes answer (Ok tokens) is tells = one_answer bytes answer (Ok (lexemes_of tokens)) is tells
only_answer bytes answer (Err (stops.Fault fault)) is tells = one_answer bytes answer (Err fault) is tells
only_answer bytes answer (Err stops.OutOfMemory) is tells = tt

-- what is read is right
pub text_answered : (bytes : List ℕ) (result : Result (List Token) Stop) → IsUtf8 bytes → Gives (lexed_characters (chars bytes)) (answer_of lexemes_of result) → Tells bytes result
text_answered bytes (Ok tokens) u gives = (u, subst (sound.Tells 0 (chars bytes)) gives (sound.lexed_tells (chars bytes)))
text_answered bytes (Err (stops.Fault fault)) u gives = no_tokens fault u (subst (sound.Tells 0 (chars bytes)) gives (sound.lexed_tells (chars bytes)))
text_answered bytes (Err stops.OutOfMemory) u gives = tt

pub answered : (bytes text : List ℕ) (result : Result (List Token) Stop) → text ≡ bytes → IsUtf8 bytes → Gives (lexed_characters (chars text)) (answer_of lexemes_of result) → Tells bytes result
answered bytes text result e u gives = text_answered bytes result u (subst (λ t. Gives (lexed_characters (chars t)) (answer_of lexemes_of result)) e gives)

pub no_text_answered : (bytes : List ℕ) (fault : Fault) (at : ℕ) → (IsUtf8 bytes → ⊥) → IsValidUpTo bytes at → fault_at causes.BadUtf8 at ≡ fault → Tells bytes (Err (stops.Fault fault))
no_text_answered bytes fault at none valid e = subst (IsRefused bytes) e (no_text at none valid)

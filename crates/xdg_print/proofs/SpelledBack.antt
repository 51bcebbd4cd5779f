-- What the tokens of a text say can be spelled.
use Rattle.std.proofs.Common.{◌≡◌, ℕ, ◌≤◌, ◌==◌, true, List, [], ◌∷◌, map, refl, subst}
use Rattle.std.specs.List.{list_all}
use Rattle.std.specs.Str.{chars, all_scalars, encode_utf8_all}
use Rattle.std.proofs.lemmas.Bool.{and_from, cond_both}
use Rattle.std.proofs.lemmas.Str.{scalars-chars}
use Rattle.xdg_ast.specs.declared.token.Kind.{Kind}
use Rattle.xdg_base.specs.Spelling.{begins_name, continues_name}
use Rattle.xdg_ast.specs.Kinds.{sign_of}
use Rattle.xdg_ast.specs.Lexemes.{Lexeme, lexeme}
use Rattle.xdg_ast.specs.Tokenizes.{IsToken, name, number, quoted, sign, Tokenizes, finished, last_comment, gap, token, Spells}
use Rattle.xdg_ast.specs.Words.{word_of, IsSpellable, AreSpellable}
use Rattle.xdg_print.proofs.SpelledTexts.{all_pass}
use Rattle.xdg_print.proofs.SpelledNames.{IsMark, named_spelled}
use Rattle.xdg_print.proofs.SpelledNumbers.{number_spelled}
use Rattle.xdg_print.proofs.SpelledQuotes.{quoted_spelled}
use Rattle.xdg_facts.proofs.Encoded.{scalars_split}

sign_mark : (c : ℕ) → IsMark (sign_of c)
unfolding sign_of
sign_mark c =
    cond_both (c == 123) _ _ IsMark (λ _ at text. (refl, refl))
    (λ _. cond_both (c == 125) _ _ IsMark (λ _ at text. (refl, refl))
    (λ _. cond_both (c == 40) _ _ IsMark (λ _ at text. (refl, refl))
    (λ _. cond_both (c == 41) _ _ IsMark (λ _ at text. (refl, refl))
    (λ _. cond_both (c == 91) _ _ IsMark (λ _ at text. (refl, refl))
    (λ _. cond_both (c == 93) _ _ IsMark (λ _ at text. (refl, refl))
    (λ _. cond_both (c == 58) _ _ IsMark (λ _ at text. (refl, refl))
    (λ _. cond_both (c == 38) _ _ IsMark (λ _ at text. (refl, refl))
    (λ _. cond_both (c == 124) _ _ IsMark (λ _ at text. (refl, refl))
    (λ _. cond_both (c == 36) _ _ IsMark (λ _ at text. (refl, refl))
    (λ _. cond_both (c == 35) _ _ IsMark (λ _ at text. (refl, refl))
    (λ _. cond_both (c == 33) _ _ IsMark (λ _ at text. (refl, refl))
    (λ _. cond_both (c == 63) _ _ IsMark (λ _ at text. (refl, refl))
    (λ _. cond_both (c == 42) _ _ IsMark (λ _ at text. (refl, refl))
    (λ _. cond_both (c == 43) _ _ IsMark (λ _ at text. (refl, refl))
    (λ _. tt)))))))))))))))

token_spelled : (at : ℕ) (kind : Kind) (piece : List ℕ) (content : ℕ) (behind : List ℕ) → IsToken at kind piece content behind → content ≤ 127 → all_scalars piece ≡ true
    → IsSpellable (word_of (lexeme kind at (encode_utf8_all piece)))
token_spelled at kind piece content behind (name c body after b each stops) short a = named_spelled at (c ∷ body) (and_from (begins_name c) (list_all continues_name body) b (all_pass continues_name body each)) short
token_spelled at kind piece content behind (number c body after b each stops small) short a = number_spelled at (encode_utf8_all (c ∷ body))
token_spelled at kind piece content behind (quoted inside n after is) short a = quoted_spelled at inside n is short a
token_spelled at kind piece content behind (sign c said after is) short a = subst IsMark is (sign_mark c) at (encode_utf8_all (c ∷ []))

all_spelled : (at : ℕ) (cs : List ℕ) (tokens : List Lexeme) → Tokenizes 127 at cs tokens → all_scalars cs ≡ true → AreSpellable (map word_of tokens)
all_spelled at cs tokens (finished place) a = tt
all_spelled at cs tokens (last_comment place body each) a = tt
all_spelled at cs tokens (gap place piece behind more space rest) a = all_spelled _ behind more rest (scalars_split piece behind a).1
all_spelled at cs tokens (token place kind piece content behind more is short rest) a =
    (token_spelled at kind piece content behind is short (scalars_split piece behind a).0, all_spelled _ behind more rest (scalars_split piece behind a).1)

-- the words that the tokens of a text say can be written
pub spelled_words : (bytes : List ℕ) (tokens : List Lexeme) → Spells bytes tokens → AreSpellable (map word_of tokens)
spelled_words bytes tokens spelled = all_spelled 0 (chars bytes) tokens spelled.1 (scalars-chars bytes spelled.0)

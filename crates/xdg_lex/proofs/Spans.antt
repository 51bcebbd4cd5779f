-- The tokens of a text stand in it.
use Rattle.std.proofs.Common.{◌≡◌, ℕ, ◌+◌, ◌-◌, ◌<◌, ◌≤◌, List, [], ◌∷◌, ◌++◌, Ok, Err, length, refl, sym, ◌∙◌, ap, arith, append_assoc, length-append}
use Rattle.std.specs.Prelude.{Result, IfOk}
use Rattle.std.specs.Char.{encode_utf8}
use Rattle.std.specs.Str.{chars, encode_utf8_all}
use Rattle.std.proofs.lemmas.Str.{encodes-append, encodes-chars, length-encode, len_utf8_bounds}
use Rattle.xdg_base.specs.declared.faults.Stop.{Stop}
use Rattle.xdg_ast.specs.declared.token.Kind.{Kind}
use Rattle.xdg_ast.specs.declared.token.Token.{Token}
use Rattle.xdg_ast.specs.Lexemes.{Lexeme, lexemes_of}
use Rattle.xdg_lex.specs.Spans.{StandFrom}
use Rattle.xdg_ast.specs.Tokenizes.{size_of, IsToken, name, number, quoted, sign, Tokenizes, finished, last_comment, gap, token}
use Rattle.xdg_lex.specs.Offends.{Tells}
use Rattle.xdg_facts.proofs.Fronts.{slice_is}

some_bytes : (c : ℕ) (cs : List ℕ) → 0 < size_of (c ∷ cs)
some_bytes c cs = omega (arith, length-append (encode_utf8 c) (encode_utf8_all cs), length-encode c, len_utf8_bounds c)

token_has_bytes : (at : ℕ) (kind : Kind) (piece : List ℕ) (content : ℕ) (behind : List ℕ) → IsToken at kind piece content behind → 0 < size_of piece
token_has_bytes at kind piece content behind (name c body after b each stops) = some_bytes c body
token_has_bytes at kind piece content behind (number c body after b each stops small) = some_bytes c body
token_has_bytes at kind piece content behind (quoted cs bytes after is) = some_bytes 34 (cs ++ 34 ∷ [])
token_has_bytes at kind piece content behind (sign c k after is) = some_bytes c []

stand_from : (limit at : ℕ) (cs : List ℕ) (tokens : List Lexeme) → Tokenizes limit at cs tokens → (bytes front : List ℕ) (from : ℕ) → bytes ≡ front ++ encode_utf8_all cs → length front ≡ at → from ≤ at
    → StandFrom bytes from tokens
stand_from limit at cs tokens (finished place) = λ bytes front from is here low. omega (arith, ap length is, length-append front [], here, low)
stand_from limit at cs tokens (last_comment place body each) = λ bytes front from is here low. omega (arith, ap length is, length-append front (encode_utf8_all (37 ∷ body)), here, low)
stand_from limit at cs tokens (gap place piece behind more space rest) = λ bytes front from is here low.
    stand_from limit (at + size_of piece) behind tokens rest bytes (front ++ encode_utf8_all piece) from
    (is ∙ ap (λ l. front ++ l) (encodes-append piece behind) ∙ sym (append_assoc front (encode_utf8_all piece) (encode_utf8_all behind)))
    (omega (arith, length-append front (encode_utf8_all piece), here)) (omega (arith, low))
stand_from limit at cs tokens (token place kind piece content behind more spelled short rest) = λ bytes front from is here low.
    let parts : bytes ≡ front ++ (encode_utf8_all piece ++ encode_utf8_all behind) = is ∙ ap (λ l. front ++ l) (encodes-append piece behind) in (
      low,
      omega (arith, token_has_bytes at kind piece content behind spelled),
      slice_is bytes front (encode_utf8_all piece) (encode_utf8_all behind) at parts here,
      stand_from limit (at + size_of piece) behind more rest bytes (front ++ encode_utf8_all piece) (at + size_of piece)
          (parts ∙ sym (append_assoc front (encode_utf8_all piece) (encode_utf8_all behind)))
          (omega (arith, length-append front (encode_utf8_all piece), here)) (omega arith),
    )

pub stand : (bytes : List ℕ) (result : Result (List Token) Stop) → Tells bytes result → IfOk result (λ tokens. StandFrom bytes 0 (lexemes_of tokens))
stand bytes (Ok tokens) (u, spelled) = stand_from 127 0 (chars bytes) (lexemes_of tokens) spelled bytes [] 0 (sym (encodes-chars bytes u)) refl (omega arith)
stand bytes (Err why) tells = tt

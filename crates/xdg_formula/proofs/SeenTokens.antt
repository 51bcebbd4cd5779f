-- Seeing one token after the other, as a loop does.
use Rattle.std.proofs.Common.{◌≡◌, ℕ, ◌+◌, ◌<◌, List, [], ◌∷◌, ◌++◌, length, get_or, take, sym, ap, ◌∙◌}
use Rattle.std.proofs.lemmas.List.{map-append, map_more}
use Rattle.xdg_ast.specs.declared.token.Token.{Token}
use Rattle.xdg_ast.specs.Lexemes.{Lexeme, lexeme_of, lexemes_of}
use Rattle.xdg_formula.specs.Words.{seen, seen_all}

pub next_seen : (made tokens : List Token) (i : ℕ) (token new : Token) → i < length tokens → token ≡ get_or tokens i token → lexeme_of new ≡ seen (lexeme_of token)
    → lexemes_of made ≡ seen_all (lexemes_of (take i tokens)) → lexemes_of (made ++ new ∷ []) ≡ seen_all (lexemes_of (take (i + 1) tokens))
next_seen made tokens i token new within is same so_far =
    let before = lexemes_of (take i tokens) in
    let one : lexemes_of (made ++ new ∷ []) ≡ lexemes_of made ++ lexeme_of new ∷ [] = map-append lexeme_of made (new ∷ []) in
    let two : lexemes_of made ++ lexeme_of new ∷ [] ≡ seen_all before ++ lexeme_of new ∷ [] = ap (λ (ts : List Lexeme). ts ++ lexeme_of new ∷ []) so_far in
    let three : seen_all before ++ lexeme_of new ∷ [] ≡ seen_all before ++ seen (lexeme_of token) ∷ [] = ap (λ (t : Lexeme). seen_all before ++ t ∷ []) same in
    let four : lexemes_of (take (i + 1) tokens) ≡ before ++ lexeme_of token ∷ [] = map_more lexeme_of tokens i token within ∙ ap (λ (t : Token). before ++ lexeme_of t ∷ []) (sym is) in
    let five : seen_all (lexemes_of (take (i + 1) tokens)) ≡ seen_all before ++ seen (lexeme_of token) ∷ [] = ap seen_all four ∙ map-append seen before (lexeme_of token ∷ []) in
    one ∙ two ∙ three ∙ sym five

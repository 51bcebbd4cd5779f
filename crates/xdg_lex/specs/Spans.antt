-- Where tokens stand in a text.
use Rattle.std.specs.Prelude.{◌≡◌, ℕ, ◌<◌, ◌≤◌, List, [], ◌∷◌, length}
use Rattle.std.specs.List.{slice_range}
use Rattle.xdg_ast.specs.Lexemes.{Lexeme}

-- each token is the slice of the text at its span, is not empty, and ends before the next begins
abbrev pub StandFrom : List ℕ → ℕ → List Lexeme → Type 0
StandFrom bytes at [] = at ≤ length bytes
StandFrom bytes at (token ∷ tokens) =
    (at ≤ token.span.start) × (token.span.start < token.span.end) × (token.text ≡ slice_range bytes token.span.start token.span.end)
    × StandFrom bytes token.span.end tokens

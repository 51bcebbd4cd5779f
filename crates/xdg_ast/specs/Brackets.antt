-- How many brackets are open.
use Rattle.std.specs.Prelude.{ℕ, zero, suc, if◌then◌else◌, List, [], ◌∷◌, Option, Some, None}
use Rattle.xdg_ast.specs.declared.token.Kind.TheVariants as k
use Rattle.xdg_ast.specs.Lexemes.{Lexeme}
use Rattle.xdg_ast.specs.Language.{Kinds, is, ◌or◌}

abbrev pub is_opening : Kinds
is_opening = is k.LeftBrace or is k.LeftParenthesis or is k.LeftBracket

abbrev pub is_closing : Kinds
is_closing = is k.RightBrace or is k.RightParenthesis or is k.RightBracket

abbrev pub less : ℕ → Option ℕ
less zero = None
less (suc n) = Some n

abbrev pub then_walk : Option ℕ → (ℕ → Option ℕ) → Option ℕ
then_walk None f = None
then_walk (Some n) f = f n

abbrev pub past : Kinds → Kinds → ℕ → Lexeme → Option ℕ
past opening closing n t = if opening t.kind then less n else (if closing t.kind then Some (suc n) else Some n)

-- how many brackets may still be opened after these tokens, where so many may before them; None if they open one too many
unfoldable pub walk : ℕ → List Lexeme → Option ℕ
walk n [] = Some n
walk n (t ∷ ts) = then_walk (past is_opening is_closing n t) (λ m. walk m ts)

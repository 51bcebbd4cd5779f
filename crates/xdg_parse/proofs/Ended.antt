-- Where the last of the tokens ends.
use Rattle.std.proofs.Common.{◌≡◌, ℕ, List, [], ◌∷◌, ◌++◌, refl}
use Rattle.xdg_ast.specs.Lexemes.{Lexeme}
use Rattle.xdg_ast.specs.Language.{ended_by}

pub ended-append : (e : ℕ) (u v : List Lexeme) → ended_by e (u ++ v) ≡ ended_by (ended_by e u) v
unfolding ended_by
ended-append e [] v = refl
ended-append e (t ∷ u) v = ended-append t.span.end u v

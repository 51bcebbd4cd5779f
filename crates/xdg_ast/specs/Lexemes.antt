-- Tokens with their bytes.
use Rattle.std.specs.Prelude.{ℕ, ◌+◌, List, length, map}
use Rattle.xdg_base.specs.declared.places.Span.{Span}
use Rattle.xdg_ast.specs.declared.token.Kind.{Kind}
use Rattle.xdg_ast.specs.declared.token.Token.{Token}

-- a token with its bytes
pub record Lexeme : Type 0 where
  pub kind : Kind
  pub text : List ℕ
  pub span : Span

abbrev pub lexeme_of : Token → Lexeme
lexeme_of token = record { kind = token.kind; text = token.text.now; span = token.span }

abbrev pub lexemes_of : List Token → List Lexeme
lexemes_of = map lexeme_of

-- the token that stands at a place
abbrev pub lexeme : Kind → ℕ → List ℕ → Lexeme
lexeme kind start text = record { kind = kind; text = text; span = record { start = start; end = start + length text } }

-- A canonical text is read again.
use Rattle.std.specs.Prelude.{◌≡◌, ℕ, List}
use Rattle.xdg_ast.specs.declared.grammar.Grammar.{Grammar}
use Rattle.xdg_ast.specs.Canon.{canon}
use Rattle.xdg_ast.specs.Derives.{Reads}
use Rattle.xdg_ast.specs.Same.{Same}

-- the text is read as a tree that differs from this one at most in its places, and the canonical text of that tree is this text
pub record IsReadAgain (text : List ℕ) (grammar : Grammar) : Type 0 where
  pub again : Grammar
  pub reads : Reads text again
  pub same : Same grammar again
  pub prints : canon again ≡ text

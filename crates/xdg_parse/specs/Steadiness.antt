-- What a language reads is meant.
use Rattle.std.specs.Prelude.{◌≡◌, ℕ, true, List, [], ◌++◌, Ok}
use Rattle.xdg_ast.specs.Lexemes.{Lexeme}
use Rattle.xdg_ast.specs.Language.{Language, ended_by, State}

abbrev pub at : ℕ → List Lexeme → State
at e ts = record { ended = e; left = ts }

-- the tokens from one state to the next are a list of the language that means this
pub record Taken {A : Type 0} (l : Language A) (s : State) (x : A) (s' : State) : Type 0 where
  pub used : List Lexeme
  pub split : s.left ≡ used ++ s'.left
  pub ended : s'.ended ≡ ended_by s.ended used
  pub means : l.means used x

-- what is read is meant, and of no token nothing is meant but where the language has the empty list
pub record Steady {A : Type 0} (l : Language A) : Type 0 where
  pub empty : (x : A) → l.means [] x → l.empty ≡ true
  pub sound : (s : State) (x : A) (s' : State) → l.read s ≡ Ok (x, s') → Taken l s x s'

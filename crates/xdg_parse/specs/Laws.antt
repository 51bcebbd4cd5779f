-- What holds of a language as it is read with at most so many open brackets, and as it is meant with at most so many others.
use Rattle.std.specs.Prelude.{◌≡◌, ℕ, suc, ◌<◌, true, false, List, [], ◌∷◌, ◌++◌, Some, Ok, Err}
use Rattle.xdg_ast.specs.declared.token.Kind.{Kind}
use Rattle.xdg_ast.specs.Lexemes.{Lexeme}
use Rattle.xdg_ast.specs.Language.{Language, kind_of, holds, ended_by, State, Unexpected, TooDeep, Outcome}
use Rattle.xdg_ast.specs.Brackets.{is_opening, walk}
use Rattle.xdg_parse.specs.Steadiness.{at}

-- ---- what an outcome says

pub record WasRead {A : Type 0} (d : ℕ) (l : Language A) (s : State) (x : A) (s' : State) : Type 0 where
  pub used : List Lexeme
  pub split : s.left ≡ used ++ s'.left
  pub ended : s'.ended ≡ ended_by s.ended used
  pub means : l.means used x
  pub walked : walk d used ≡ Some d
  -- what comes next matters by the kind of its first token alone
  pub again : (r : List Lexeme) → kind_of s'.left ≡ kind_of r → l.read (at s.ended (used ++ r)) ≡ Ok (x, at s'.ended r)

-- something goes on from there, and not with the next token
pub record Stopped {A : Type 0} (d : ℕ) (l : Language A) (s : State) (r : List Lexeme) : Type 0 where
  pub used : List Lexeme
  pub split : s.left ≡ used ++ r
  pub tail : List Lexeme
  pub value : A
  pub means : l.means (used ++ tail) value
  pub reached : ℕ
  pub walked : walk d used ≡ Some reached
  pub again : (r' : List Lexeme) → kind_of r ≡ kind_of r' → l.read (at s.ended (used ++ r')) ≡ Err (Unexpected, r')

-- something goes on with the next token, which opens one bracket too many
pub record TooMany {A : Type 0} (d : ℕ) (l : Language A) (s : State) (r : List Lexeme) : Type 0 where
  pub used : List Lexeme
  pub bracket : Lexeme
  pub others : List Lexeme
  pub split : s.left ≡ used ++ r
  pub next : r ≡ bracket ∷ others
  pub opens : is_opening bracket.kind ≡ true
  pub tail : List Lexeme
  pub value : A
  pub means : l.means (used ++ bracket ∷ tail) value
  pub walked : walk d used ≡ Some 0

abbrev pub Says : {A : Type 0} → ℕ → Language A → State → Outcome A → Type 0
Says d l s (Ok (x, s')) = WasRead d l s x s'
Says d l s (Err (Unexpected, r)) = Stopped d l s r
Says d l s (Err (TooDeep, r)) = TooMany d l s r

pub record Alive {A : Type 0} (relation : List Lexeme → A → Type 0) : Type 0 where
  pub tokens : List Lexeme
  pub value : A
  pub means : relation tokens value

-- read is a language with d brackets to open, and meant the same with n; what is read so is told where n is greater by two or more
pub record Law {A : Type 0} (d n : ℕ) (read meant : Language A) : Type 0 where
  pub same : (k : Kind) → meant.first k ≡ read.first k
  pub same_empty : meant.empty ≡ read.empty
  pub fits : (u : List Lexeme) (x : A) → meant.means u x → walk n u ≡ Some n
  pub first : (t : Lexeme) (u : List Lexeme) (x : A) → meant.means (t ∷ u) x → read.first t.kind ≡ true
  pub empty : (x : A) → meant.means [] x → read.empty ≡ true
  pub complete : (u : List Lexeme) (x : A) (e : ℕ) (r : List Lexeme) → meant.means u x → walk d u ≡ Some d → holds read.last (kind_of r) ≡ false
      → read.read (at e (u ++ r)) ≡ Ok (x, at (ended_by e u) r)
  pub says : suc d < n → (s : State) → Says d meant s (read.read s)

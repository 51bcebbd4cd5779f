-- What tokens say, and where tokens fail to be those of a costs text.
use Rattle.std.specs.Prelude.{◌≡◌, ℕ, List, [], ◌∷◌, ◌++◌, Result, Ok, Err}
use Rattle.xdg_base.specs.Faults.{fault_at}
use Rattle.xdg_base.specs.declared.faults.Fault.{Fault}
use Rattle.xdg_base.specs.declared.faults.Cause.TheVariants as causes
use Rattle.xdg_base.specs.declared.faults.Stop.{Stop}
use Rattle.xdg_base.specs.Told.{TellsOf}
use Rattle.xdg_ast.specs.Lexemes.{Lexeme}
use Rattle.xdg_ast.specs.Derives.{place_of}
use Rattle.xdg_best.specs.declared.statements.Statement.{Statement}
use Rattle.xdg_best.specs.Statements.{Derives}

-- some tokens after these make a list that says statements
abbrev pub Starts : List Lexeme → Type 0
Starts ts = (more : List Lexeme) × (ss : List Statement) × Derives (ts ++ more) ss

-- what comes next is not how a text goes on
abbrev pub Ends : List Lexeme → List Lexeme → Type 0
Ends us [] = (ss : List Statement) → Derives us ss → ⊥
Ends us (t ∷ ts) = Starts (us ++ t ∷ []) → ⊥

-- the tokens before a place begin some costs text, and with the token there, or with the end, they don't
pub record IsUnexpectedAt (ts : List Lexeme) (end place : ℕ) : Type 0 where
  pub before : List Lexeme
  pub rest : List Lexeme
  pub split : ts ≡ before ++ rest
  pub place_is : place ≡ place_of end rest
  pub starts : Starts before
  pub ends : Ends before rest

-- why tokens are refused, where the text ends at a place
pub data IsRefused (ts : List Lexeme) (end : ℕ) : Fault → Type 0 where
  unexpected : (place : ℕ) → IsUnexpectedAt ts end place → IsRefused ts end (fault_at causes.Unexpected place)

-- the statements that the tokens say, or the first fault
abbrev pub IsAnswer : List Lexeme → ℕ → Result (List Statement) Fault → Type 0
IsAnswer ts end (Ok ss) = Derives ts ss
IsAnswer ts end (Err fault) = IsRefused ts end fault

-- a call answers so, unless memory ran out
abbrev pub Tells : List Lexeme → ℕ → Result (List Statement) Stop → Type 0
Tells ts end = TellsOf (IsAnswer ts end)

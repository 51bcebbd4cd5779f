-- What a costs text says, or why it is refused.
use Rattle.std.specs.Prelude.{◌≡◌, ℕ, List, [], length, Some, None, Result, Ok, Err}
use Rattle.xdg_base.specs.declared.faults.Fault.{Fault}
use Rattle.xdg_base.specs.declared.faults.Stop.{Stop}
use Rattle.xdg_base.specs.Told.{TellsOf}
use Rattle.xdg_names.specs.First as first
use Rattle.xdg_ast.specs.Lexemes.{Lexeme}
use Rattle.xdg_lex.specs.Offends as tokens
use Rattle.xdg_ast.specs.Tokenizes.{Spells}
use Rattle.xdg_problem.specs.Costs.{CostLists}
use Rattle.xdg_types.specs.Table.{Table}
use Rattle.xdg_best.specs.declared.statements.Statement.{Statement}
use Rattle.xdg_best.specs.Meaning.{costs_of, Offends}
use Rattle.xdg_best.specs.Reading as statements
use Rattle.xdg_best.specs.Statements.{Derives}

-- the bytes spell tokens that say these statements
pub record Reads (bytes : List ℕ) (said : List Statement) : Type 0 where
  pub tokens : List Lexeme
  pub spells : Spells bytes tokens
  pub derives : Derives tokens said

-- The bytes say these costs: of entries, of which there are so many, and of labels of the used dimensions. Nothing is wrong with
-- their statements.
pub record Says (bytes : List ℕ) (table : Table) (entries : ℕ) (costs : CostLists) : Type 0 where
  pub said : List Statement
  pub reads : Reads bytes said
  pub right : first.Tells (Offends table entries [] said) None
  pub costs_are : costs ≡ costs_of table said

-- The bytes spell no tokens, or else their tokens say no statements, or else the fault is the first of those of the statements.
pub data IsRefused (bytes : List ℕ) (table : Table) (entries : ℕ) (fault : Fault) : Type 0 where
  no_tokens : tokens.IsRefused bytes fault → IsRefused bytes table entries fault
  no_statements : (ts : List Lexeme) → Spells bytes ts → statements.IsRefused ts (length bytes) fault → IsRefused bytes table entries fault
  wrong : (said : List Statement) → Reads bytes said → first.Tells (Offends table entries [] said) (Some fault) → IsRefused bytes table entries fault

-- the costs, or the first fault
abbrev pub IsAnswer : List ℕ → Table → ℕ → Result CostLists Fault → Type 0
IsAnswer bytes table entries (Ok costs) = Says bytes table entries costs
IsAnswer bytes table entries (Err fault) = IsRefused bytes table entries fault

abbrev pub Tells : List ℕ → Table → ℕ → Result CostLists Stop → Type 0
Tells bytes table entries = TellsOf (IsAnswer bytes table entries)

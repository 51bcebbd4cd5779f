-- What each token makes of the statement in which it stands. The tokens are gone through once.
use Rattle.std.specs.Prelude.{◌≡◌, ℕ, Bool, true, false, if◌then◌else◌, List, [], ◌∷◌, ◌++◌, Result, Ok, Err}
use Rattle.xdg_base.specs.Faults.{fault_at}
use Rattle.xdg_base.specs.declared.faults.Stop.{Stop}
use Rattle.xdg_base.specs.declared.faults.Stop.TheVariants as stops
use Rattle.xdg_base.specs.declared.faults.Cause.TheVariants as causes
use Rattle.xdg_ast.specs.Lexemes.{Lexeme}
use Rattle.xdg_ast.specs.Grammar.{name_of, num_of, number_of}
use Rattle.xdg_best.specs.declared.statements.Open.{Open}
use Rattle.xdg_best.specs.declared.statements.Open.TheVariants as open_
use Rattle.xdg_best.specs.declared.statements.Statement.{Statement}
use Rattle.xdg_best.specs.declared.statements.Statement.TheVariants as statements
use Rattle.xdg_best.specs.declared.statements.Turn.{Turn}
use Rattle.xdg_best.specs.declared.statements.Turn.TheVariants as turns
use Rattle.xdg_best.specs.Statements.{is_number, is_constant, is_word, entry_word, edge_word}

abbrev pub is_nothing : Open → Bool
is_nothing open_.Nothing = true
is_nothing _ = false

-- what the first token of a statement makes
abbrev pub begun : Lexeme → Turn
begun t = if is_word entry_word t then turns.GoesOn open_.Entry else (if is_word edge_word t then turns.GoesOn open_.Edge else turns.Refused)

-- what the next token makes
abbrev pub turn_of : Open → Lexeme → Turn
turn_of open_.Nothing t = begun t
turn_of open_.Entry t = if is_number t.kind then turns.GoesOn (open_.Number (num_of t)) else turns.Refused
turn_of (open_.Number number) t = if is_number t.kind then turns.Says (statements.Entry number (number_of t)) else turns.Refused
turn_of open_.Edge t = if is_constant t.kind then turns.GoesOn (open_.Dim (name_of t)) else turns.Refused
turn_of (open_.Dim dim) t = if is_constant t.kind then turns.GoesOn (open_.Label dim (name_of t)) else turns.Refused
turn_of (open_.Label dim label) t = if is_number t.kind then turns.Says (statements.Edge dim label (number_of t)) else turns.Refused

-- statements, or the place of what is unexpected
abbrev pub Outcome : Type 0
Outcome = Result (List Statement) ℕ

abbrev pub after_turn : Turn → ℕ → (Open → Outcome) → (Statement → Outcome) → Outcome
after_turn (turns.GoesOn next) at more said = more next
after_turn (turns.Says statement) at more said = said statement
after_turn turns.Refused at more said = Err at

abbrev pub after_last : ℕ → List Statement → Open → Outcome
after_last end made open_.Nothing = Ok made
after_last end made _ = Err end

-- what tokens say behind these statements and the beginning of a further one, where the text ends at a place
unfoldable pub run : ℕ → List Statement → Open → List Lexeme → Outcome
run end made began [] = after_last end made began
run end made began (t ∷ ts) =
    after_turn (turn_of began t) t.span.start (λ next. run end made next ts) (λ statement. run end (made ++ statement ∷ []) open_.Nothing ts)

-- a call gives this, or memory ran out
abbrev pub Runs : Outcome → Result (List Statement) Stop → Type 0
Runs outcome (Ok made) = outcome ≡ Ok made
Runs outcome (Err (stops.Fault fault)) = (at : ℕ) × (outcome ≡ Err at) × (fault ≡ fault_at causes.Unexpected at)
Runs outcome (Err stops.OutOfMemory) = Unit {0}

-- What a call tells that answers with a value or refuses with a fault, and where memory may be wanting.
use Rattle.std.specs.Prelude.{◌≡◌, Result, Ok, Err}
use Rattle.xdg_base.specs.declared.faults.Fault.{Fault}
use Rattle.xdg_base.specs.declared.faults.Stop.{Stop}
use Rattle.xdg_base.specs.declared.faults.Stop.TheVariants as stops

-- what it gives is an answer; want of memory tells nothing
abbrev pub TellsOf : {A : Type 0} → (Result A Fault → Type 0) → Result A Stop → Type 0
TellsOf IsAnswer (Ok value) = IsAnswer (Ok value)
TellsOf IsAnswer (Err (stops.Fault fault)) = IsAnswer (Err fault)
TellsOf IsAnswer (Err stops.OutOfMemory) = Unit {0}

-- it gives this answer, unless memory ran out
abbrev pub Gives : {A : Type 0} → Result A Fault → Result A Stop → Type 0
Gives answer (Ok value) = answer ≡ Ok value
Gives answer (Err (stops.Fault fault)) = answer ≡ Err fault
Gives answer (Err stops.OutOfMemory) = Unit {0}

-- the answer whose value is made by that function; an error stays as it is
abbrev pub answer_of : {A B : Type 0} → (A → B) → Result A Stop → Result B Stop
answer_of f (Ok value) = Ok (f value)
answer_of f (Err stop) = Err stop

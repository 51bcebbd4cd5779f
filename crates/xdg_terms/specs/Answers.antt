-- What an answer tells of a term where a type is wanted.
use Rattle.std.specs.Prelude.{Result, Ok, Err, Some}
use Rattle.xdg_base.specs.declared.faults.Fault.{Fault}
use Rattle.xdg_base.specs.declared.faults.Stop.{Stop}
use Rattle.xdg_base.specs.declared.faults.Stop.TheVariants as stops
use Rattle.xdg_domain.specs.Shapes.{Shape}
use Rattle.xdg_domain.specs.Values.{IsValue}
use Rattle.xdg_domain.specs.declared.values.Value.{Value}
use Rattle.xdg_names.specs.First.{Tells as TellsFault}
use Rattle.xdg_terms.specs.Forms.{Term, Bindings}
use Rattle.xdg_terms.specs.Offences.{Offends}
use Rattle.xdg_terms.specs.Means.{Means}

-- nothing is wrong with the term
abbrev pub IsRight : Bindings → Shape → Term → Type 0
IsRight bs s t = (f : Fault) → Offends bs s t f → ⊥

-- A value: nothing is wrong, and the term means it. A fault: it is the first. Want of memory tells nothing.
abbrev pub Tells : Bindings → Shape → Term → Result Value Stop → Type 0
Tells bs s t (Ok v) = IsRight bs s t × (Means bs s t v × IsValue s v)
Tells bs s t (Err (stops.Fault f)) = TellsFault (Offends bs s t) (Some f)
Tells bs s t (Err stops.OutOfMemory) = Unit {0}

-- The one answer for a grammar with its table.
use Rattle.std.specs.Prelude.{◌≡◌, ℕ, map, Result, Ok, Err}
use Rattle.xdg_base.specs.declared.faults.Fault.{Fault}
use Rattle.xdg_base.specs.declared.faults.Stop.{Stop}
use Rattle.xdg_base.specs.declared.faults.Stop.TheVariants as stops
use Rattle.xdg_classes.specs.Bodies.{Body, body}
use Rattle.xdg_check.specs.declared.checked.EntryDef.{EntryDef}
use Rattle.xdg_check.specs.Checked.{Parts, named_bodies}

-- the body of an entry with the place of its word
abbrev pub placed_body : EntryDef → ℕ × Body
placed_body e = (e.at, body e.body.kind)

-- The same types, the same uses of principles, the same classes and the same entries. Places inside bodies may differ, and
-- so may the order in which classes stand after those that they use.
pub record SameMeaning (a b : Parts) : Type 0 where
  pub types : a.types ≡ b.types
  pub principles : a.principles ≡ b.principles
  pub classes : named_bodies a.classes ≡ named_bodies b.classes
  pub entries : map placed_body a.entries ≡ map placed_body b.entries

-- a call gives what means the same, or this fault, unless memory ran out
abbrev pub Gives : Result Parts Fault → Result Parts Stop → Type 0
Gives (Ok parts) (Ok made) = SameMeaning parts made
Gives (Ok parts) (Err (stops.Fault told)) = ⊥
Gives (Err fault) (Ok made) = ⊥
Gives (Err fault) (Err (stops.Fault told)) = fault ≡ told
Gives answer (Err stops.OutOfMemory) = Unit {0}

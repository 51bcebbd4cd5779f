-- What an answer tells of the types of a grammar.
use Rattle.std.specs.Prelude.{◌≡◌, ◌⊎◌, ℕ, List, Result, Ok, Err, Some}
use Rattle.xdg_base.specs.declared.faults.Fault.{Fault}
use Rattle.xdg_base.specs.declared.faults.Stop.{Stop}
use Rattle.xdg_base.specs.Told.{TellsOf}
use Rattle.xdg_names.specs.Closing.{IsClosing}
use Rattle.xdg_domain.specs.Shapes.{Shape}
use Rattle.xdg_names.specs.First.{Tells as TellsFault}
use Rattle.xdg_types.specs.Parts.{Statement}
use Rattle.xdg_types.specs.Names.{NameOffends}
use Rattle.xdg_types.specs.Graph.{type_graph}
use Rattle.xdg_types.specs.Meaning.{Resolves}
use Rattle.xdg_types.specs.Kinds.{KindOffends}
use Rattle.xdg_types.specs.Table.{Table, IsTableOf}

abbrev pub CycleOffends : List Statement → Fault → Type 0
CycleOffends statements f = IsClosing (type_graph statements) f

-- no fault is one of these
abbrev pub None_of : (Fault → Type 0) → Type 0
None_of P = (f : Fault) → P f → ⊥

-- A table: nothing is wrong with the names, no type leads back to itself, and where the names mean what they say, which
-- is one thing, nothing is wrong with the kinds and sizes, and the table is that of the grammar.
pub record HasTable (statements : List Statement) (made : Table) : Type 0 where
  pub named : None_of (NameOffends statements)
  pub acyclic : None_of (CycleOffends statements)
  pub names : List ℕ → Shape
  pub resolves : Resolves statements names
  pub only : (others : List ℕ → Shape) → Resolves statements others → (name : List ℕ) → others name ≡ names name
  pub right : None_of (KindOffends names statements)
  pub table : IsTableOf names statements made

-- the first of the kinds and sizes that are wrong, where the names mean what they say
pub record HasWrongKind (statements : List Statement) (f : Fault) : Type 0 where
  pub named : None_of (NameOffends statements)
  pub acyclic : None_of (CycleOffends statements)
  pub names : List ℕ → Shape
  pub resolves : Resolves statements names
  pub only : (others : List ℕ → Shape) → Resolves statements others → (name : List ℕ) → others name ≡ names name
  pub first : TellsFault (KindOffends names statements) (Some f)

-- A fault is the first of the first of the three passes that finds one: names, cycles, kinds.
abbrev pub Refuses : List Statement → Fault → Type 0
Refuses statements f =
    TellsFault (NameOffends statements) (Some f)
    ⊎ ((None_of (NameOffends statements) × TellsFault (CycleOffends statements) (Some f)) ⊎ HasWrongKind statements f)

-- the grammar has this table, or is refused so
abbrev pub IsAnswer : List Statement → Result Table Fault → Type 0
IsAnswer statements (Ok table) = HasTable statements table
IsAnswer statements (Err fault) = Refuses statements fault

abbrev pub Tells : List Statement → Result Table Stop → Type 0
Tells statements = TellsOf (IsAnswer statements)

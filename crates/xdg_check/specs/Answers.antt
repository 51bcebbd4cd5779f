-- What an answer tells of a grammar with its table of types.
use Rattle.std.specs.Prelude.{◌≡◌, ◌⊎◌, List, Result, Ok, Err, Some}
use Rattle.std.specs.List.{AllZip}
use Rattle.xdg_base.specs.declared.faults.Fault.{Fault}
use Rattle.xdg_base.specs.declared.faults.Stop.{Stop}
use Rattle.xdg_base.specs.Told.{TellsOf}
use Rattle.xdg_names.specs.First.{Tells as TellsFault}
use Rattle.xdg_types.specs.Answers.{None_of}
use Rattle.xdg_types.specs.Parts.{Statement}
use Rattle.xdg_types.specs.Table.{Table}
use Rattle.xdg_classes.specs.Bodies.{body}
use Rattle.xdg_classes.specs.Definitions as d
use Rattle.xdg_classes.specs.Definitions.{ClassDef, param_names}
use Rattle.xdg_classes.specs.Names as c
use Rattle.xdg_classes.specs.Graph.{CycleOffends}
use Rattle.xdg_classes.specs.Offences as a
use Rattle.xdg_principles.specs.Arguments.{ArgumentOffends}
use Rattle.xdg_principles.specs.Made.{ArePrincipleUses}
use Rattle.xdg_principles.specs.Names.{PrincipleNameOffends}
use Rattle.xdg_check.specs.declared.checked.Class.{Class}
use Rattle.xdg_check.specs.declared.checked.EntryDef.{EntryDef}
use Rattle.xdg_check.specs.Completed.{completed}
use Rattle.xdg_check.specs.Counts.{uses, combos, AreCounted}
use Rattle.xdg_check.specs.Lex.{LexOffends}
use Rattle.xdg_check.specs.Checked.{Parts, IsOrder}
use Rattle.xdg_ast.specs.Texts.{texts}

-- ---- the passes

-- what is wrong with names, in bodies and in uses of principles
abbrev pub NameOffends : List Statement → Table → Fault → Type 0
NameOffends statements table f = c.NameOffends statements table f ⊎ PrincipleNameOffends statements f

-- what is wrong with values, in bodies and in uses of principles
abbrev pub ValueOffends : List Statement → Table → Fault → Type 0
ValueOffends statements table f = a.ValueOffends statements table f ⊎ ArgumentOffends statements table f

-- no pass finds a fault
pub record IsRight (statements : List Statement) (table : Table) : Type 0 where
  pub named : None_of (NameOffends statements table)
  pub acyclic : None_of (CycleOffends statements)
  pub valued : None_of (ValueOffends statements table)
  pub lex : None_of (LexOffends table)

-- A fault is the first of the first of the four passes that finds one: names, cycles, values, and the dimension of words.
abbrev pub Refuses : List Statement → Table → Fault → Type 0
Refuses statements table f =
    TellsFault (NameOffends statements table) (Some f)
    ⊎ (None_of (NameOffends statements table)
    × (TellsFault (CycleOffends statements) (Some f)
    ⊎ (None_of (CycleOffends statements)
    × (TellsFault (ValueOffends statements table) (Some f) ⊎ (None_of (ValueOffends statements table) × TellsFault (LexOffends table) (Some f))))))

-- ---- the checked grammar

-- the class with its name, its parameters and its body, in which the bindings are completed
pub record IsClassOf (cs : List ClassDef) (source : ClassDef) (made : Class) : Type 0 where
  pub name : made.name ≡ source.name.text
  pub params : made.params ≡ texts (param_names source.params)
  pub body : body made.body.kind ≡ completed cs (body source.body.kind)
  pub span : made.body.span ≡ source.body.span

abbrev pub AreClassesOf : List ClassDef → List ClassDef → List Class → Type 0
AreClassesOf cs sources made = AllZip (IsClassOf cs) sources made

-- the entry with the place of its word and its body, in which the bindings are completed
pub record IsEntryOf (cs : List ClassDef) (source : d.EntryDef) (made : EntryDef) : Type 0 where
  pub at : made.at ≡ source.at
  pub body : body made.body.kind ≡ completed cs (body source.body.kind)
  pub span : made.body.span ≡ source.body.span

abbrev pub AreEntriesOf : List ClassDef → List d.EntryDef → List EntryDef → Type 0
AreEntriesOf cs sources made = AllZip (IsEntryOf cs) sources made

-- the table, the principle uses, and the classes and entries in the order of the text, with their counts
pub record IsCheckedOf (statements : List Statement) (table : Table) (parts : Parts) : Type 0 where
  pub types : parts.types ≡ table
  pub principles : ArePrincipleUses statements table parts.principles
  pub classes : AreClassesOf (d.classes statements) (d.classes statements) parts.classes
  pub entries : AreEntriesOf (d.classes statements) (d.entries statements) parts.entries
  pub ordered : IsOrder parts.classes parts.order
  pub uses : AreCounted uses (λ c. c.uses) parts.classes
  pub combos : AreCounted combos (λ c. c.combos) parts.classes

-- the grammar is right and this is its checked form, or it is refused so
abbrev pub IsAnswer : List Statement → Table → Result Parts Fault → Type 0
IsAnswer statements table (Ok parts) = IsRight statements table × IsCheckedOf statements table parts
IsAnswer statements table (Err fault) = Refuses statements table fault

-- A checked grammar: nothing is wrong, and it is that of the grammar. A fault: it is the first. Want of memory tells
-- nothing.
abbrev pub Tells : List Statement → Table → Result Parts Stop → Type 0
Tells statements table = TellsOf (IsAnswer statements table)

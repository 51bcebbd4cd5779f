-- The classes of a grammar in an order in which each comes after those that it uses.
use Rattle.std.specs.Prelude.{◌≡◌, ℕ, ◌<◌, List, length, map, slice_get, Option, None, Some, Result, Ok, Err}
use Rattle.xdg_base.specs.declared.faults.Stop.{Stop}
use Rattle.xdg_base.specs.declared.faults.Stop.TheVariants as stops
use Rattle.xdg_names.specs.Leads.{uses_of, number}
use Rattle.xdg_names.specs.declared.graph.Use.{Use}
use Rattle.xdg_names.specs.First.{Tells}
use Rattle.xdg_types.specs.Answers.{None_of}
use Rattle.xdg_types.specs.Parts.{Statement}
use Rattle.xdg_classes.specs.declared.lookup.Classes.{Classes}
use Rattle.xdg_classes.specs.Definitions.{ClassDef, classes, class_names}
use Rattle.xdg_classes.specs.Graph.{class_graph, CycleOffends}
use Rattle.xdg_classes.specs.Lent.{class_def}
use Rattle.xdg_facts.specs.Membership.{In}
use Rattle.xdg_ast.specs.Texts.{texts}

-- The classes in the order of the text, their names, and an order of their places.
pub record OrdersClasses (statements : List Statement) (made : Classes) : Type 0 where
  pub acyclic : None_of (CycleOffends statements)
  pub definitions : map class_def made.definitions ≡ classes statements
  pub names : made.names ≡ texts (class_names (classes statements))
  -- the order has each place, and as many as there are classes: so each once
  pub placed : (a : ℕ) → a < length (classes statements) → In made.order a
  pub count : length made.order ≡ length (classes statements)
  pub within : (i : ℕ) → i < length made.order → number made.order i < length (classes statements)
  -- what a class uses stands before it
  pub earlier : (i : ℕ) → i < length made.order → (used : Use) → In (uses_of (class_graph statements) (number made.order i)) used
      → (j : ℕ) × ((j < i) × (number made.order j ≡ used.to))

-- The classes in order, or the first use of a class inside a class to which it leads back.
abbrev pub TellsClasses : List Statement → Result Classes Stop → Type 0
TellsClasses statements (Ok made) = OrdersClasses statements made
TellsClasses statements (Err (stops.Fault f)) = Tells (CycleOffends statements) (Some f)
TellsClasses statements (Err stops.OutOfMemory) = Unit {0}

-- the class at a place
abbrev pub class_at : List ClassDef → Option ℕ → Option ClassDef
class_at cs None = None
class_at cs (Some k) = slice_get cs k

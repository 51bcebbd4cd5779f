-- The uses of principles in a grammar.
use Rattle.std.specs.Prelude.{◌≡◌, ℕ, List, [], ◌∷◌, map, flat_map, Option, None, Some, if◌then◌else◌, bytes_eq}
use Rattle.xdg_ast.specs.declared.names.Name.{Name}
use Rattle.xdg_ast.specs.declared.names.Pair.{Pair}
use Rattle.xdg_ast.specs.declared.grammar.DimPartKind.{DimPartKind}
use Rattle.xdg_ast.specs.declared.grammar.DimPartKind.TheVariants as p
use Rattle.xdg_terms.specs.Forms.{Term}
use Rattle.xdg_types.specs.Parts.{DimPart, Statement, Dimension, dimensions}
use Rattle.xdg_problem.specs.declared.parts.Principle.{Principle}
use Rattle.xdg_problem.specs.Names.{named}
use Rattle.xdg_principles.specs.declared.using.UseRef.{UseRef}
use Rattle.xdg_principles.specs.declared.using.FoundUse.{FoundUse}
use Rattle.xdg_principles.specs.declared.using.Uses.{Uses}

-- `useprinciple p {dims {D: d} args {A: t}}`, with the name of the dimension in which it stands; without arguments where
-- `args` is left out
pub record Use : Type 0 where
  pub within : Name
  pub name : Name
  pub dims : List (Pair Name)
  pub args : List (Pair Term)

abbrev pub given_args : Option (List (Pair Term)) → List (Pair Term)
given_args None = []
given_args (Some args) = args

abbrev pub use_in : Name → DimPartKind → List Use
use_in within (p.UsePrinciple name dims args) = record { within = within; name = name; dims = dims; args = given_args args } ∷ []
use_in within _ = []

abbrev pub uses_by : Name → List DimPart → List Use
uses_by within parts = flat_map (λ part. use_in within part.kind) parts

abbrev pub uses_in : Dimension → List Use
uses_in dim = uses_by dim.0 dim.1

-- the uses of principles in all dimensions, in the order of the text
abbrev pub principle_uses : List Statement → List Use
principle_uses statements = flat_map uses_in (dimensions statements)

-- ---- pairs

-- the dimensions that are named
abbrev pub values : List (Pair Name) → List Name
values pairs = map (λ pair. pair.value) pairs

-- what stands under a key first
abbrev pub under : {A : Type 0} → List (Pair A) → List ℕ → Option A
under [] key = None
under (pair ∷ pairs) key = if bytes_eq pair.key.text key then Some pair.value else under pairs key

-- ---- as the code lends it

abbrev pub seen : UseRef → Use
seen one = record { within = one.within.now; name = one.name.now; dims = one.dims.now; args = one.args.now }

-- ---- with the principles that the names say

-- a use and the principle that its name says, if there is one
abbrev pub with_principle : Use → Use × Option Principle
with_principle one = (one, named one.name.text)

-- both as the code keeps them
abbrev pub told : FoundUse → Use × Option Principle
told one = (seen one.written, one.principle)

-- these are the uses of principles in the statements, in the order of the text, each with the principle that its name says
abbrev pub AreUsesOf : List Statement → Uses → Type 0
AreUsesOf statements uses = map told uses.found ≡ map with_principle (principle_uses statements)

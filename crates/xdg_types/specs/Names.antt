-- What is wrong with the names of dimensions and types.
use Rattle.std.specs.Prelude.{◌≡◌, ◌⊎◌, List, ◌∷◌, ◌++◌, flat_map, Option, None, Some}
use Rattle.xdg_base.specs.Faults.{fault_at}
use Rattle.xdg_base.specs.declared.faults.Cause.TheVariants as causes
use Rattle.xdg_base.specs.declared.faults.Fault.{Fault}
use Rattle.xdg_ast.specs.declared.names.Name.{Name}
use Rattle.xdg_ast.specs.declared.grammar.DimPartKind.{DimPartKind}
use Rattle.xdg_ast.specs.declared.grammar.DimPartKind.TheVariants as p
use Rattle.xdg_types.specs.Written.{tree, uses, lists}
use Rattle.xdg_ast.specs.Misnamed.{IsUnknown, IsTwice}
use Rattle.xdg_types.specs.Parts.{DimPart, Statement, Dimension, dimensions, dim_names, used_names, defined_names, types}
use Rattle.xdg_facts.specs.Membership.{In}
use Rattle.xdg_ast.specs.Texts.{texts}

-- the names of types that stand in types, in the order of the text
abbrev pub type_names : List Statement → List Name
type_names statements = flat_map (λ type. uses (tree type.kind)) (types statements)

-- The lists of names in each of which a name may stand once: the dimensions that are defined, those that are used, the
-- types, the constants of each domain, and the fields of each record.
abbrev pub once : List Statement → List (List Name)
once statements =
    dim_names statements ∷ used_names statements ∷ defined_names statements ∷ flat_map (λ type. lists (tree type.kind)) (types statements)

-- the parts of a dimension that may stand once
pub data Single : Type 0 where
  the_labels : Single
  the_attributes : Single
  the_features : Single

abbrev pub single : DimPartKind → Option Single
single (p.LabelType type) = Some the_labels
single (p.AttrsType type) = Some the_attributes
single (p.EntryType type) = Some the_features
single _ = None

-- the type of the labels, of the attributes or of the features is given twice in one dimension
pub record IsPartTwice (statements : List Statement) (f : Fault) : Type 0 where
  pub dim : Dimension
  pub defined : In (dimensions statements) dim
  pub before : List DimPart
  pub part : DimPart
  pub after : List DimPart
  pub parts : dim.1 ≡ before ++ part ∷ after
  pub earlier : DimPart
  pub stands : In before earlier
  pub what : Single
  pub is : single part.kind ≡ Some what
  pub was : single earlier.kind ≡ Some what
  pub fault : f ≡ fault_at causes.Twice part.span.start

-- A dimension is used that no statement defines, a name of a type stands there that no dimension defines, a name stands
-- again where it may stand once, or a part of a dimension does.
abbrev pub NameOffends : List Statement → Fault → Type 0
NameOffends statements f =
    IsUnknown causes.UnknownName (texts (dim_names statements)) (used_names statements) f
    ⊎ (IsUnknown causes.UnknownName (texts (defined_names statements)) (type_names statements) f
    ⊎ (IsTwice (once statements) f ⊎ IsPartTwice statements f))

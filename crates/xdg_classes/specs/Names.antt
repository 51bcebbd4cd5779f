-- What is wrong with the names of dimensions, classes and parameters in the bodies of classes and entries.
use Rattle.std.specs.Prelude.{◌≡◌, ◌⊎◌, ℕ, List, ◌∷◌, ◌++◌, map, flat_map, None, Some}
use Rattle.xdg_base.specs.Faults.{fault_at}
use Rattle.xdg_ast.specs.declared.names.Name.{Name}
use Rattle.xdg_ast.specs.declared.grammar.ClassParam.{ClassParam}
use Rattle.xdg_base.specs.declared.faults.Cause.TheVariants as causes
use Rattle.xdg_base.specs.declared.faults.Fault.{Fault}
use Rattle.xdg_ast.specs.Misnamed.{IsUnknown, IsTwice}
use Rattle.xdg_types.specs.Parts.{Statement, keys}
use Rattle.xdg_types.specs.Table.{Table}
use Rattle.xdg_classes.specs.Bodies.{Said, Called, records, calls}
use Rattle.xdg_classes.specs.Definitions.{ClassDef, classes, class_names, class_named, param_names, bodies}
use Rattle.xdg_facts.specs.Membership.{In}
use Rattle.xdg_ast.specs.Texts.{texts}

-- the names of the defined dimensions
abbrev pub dim_texts : Table → List (List ℕ)
dim_texts table = map (λ dim. dim.name) table.dims

-- all records in bodies
abbrev pub all_records : List Statement → List Said
all_records statements = flat_map (λ scoped. records scoped.body) (bodies statements)

-- all uses of classes in bodies
abbrev pub all_calls : List Statement → List Called
all_calls statements = flat_map (λ scoped. calls scoped.body) (bodies statements)

-- the dimensions of which something is said
abbrev pub said_dims : List Statement → List Name
said_dims statements = map (λ said. said.dim) (all_records statements)

-- the classes that are used
abbrev pub used_classes : List Statement → List Name
used_classes statements = map (λ call. call.name) (all_calls statements)

-- The lists of names in each of which a name may stand once: the classes, the parameters of each class, and the
-- parameters that each use gives.
abbrev pub once : List Statement → List (List Name)
once statements =
    class_names (classes statements)
    ∷ (map (λ c. param_names c.params) (classes statements) ++ map (λ call. keys call.args) (all_calls statements))

-- a use gives a parameter that the class hasn't; of two classes with one name the first counts
pub record IsUnknownParam (statements : List Statement) (f : Fault) : Type 0 where
  pub call : Called
  pub stands : In (all_calls statements) call
  pub class : ClassDef
  pub defined : class_named (classes statements) call.name.text ≡ Some class
  pub unknown : IsUnknown causes.WrongParams (texts (param_names class.params)) (keys call.args) f

-- a use leaves out a parameter that has no default
pub record IsLeftOut (statements : List Statement) (f : Fault) : Type 0 where
  pub call : Called
  pub stands : In (all_calls statements) call
  pub class : ClassDef
  pub defined : class_named (classes statements) call.name.text ≡ Some class
  pub param : ClassParam
  pub has : In class.params param
  pub bare : param.preset ≡ None
  pub missing : In (texts (keys call.args)) param.name.text → ⊥
  pub fault : f ≡ fault_at causes.WrongParams call.name.span.start

-- What is wrong with the names in bodies, where these are the dimensions: something is said of a dimension, or a class is
-- used, that isn't defined, a name stands again where it may stand once, or a use gives too many or too few parameters.
abbrev pub NameOffends : List Statement → Table → Fault → Type 0
NameOffends statements table f =
    IsUnknown causes.UnknownName (dim_texts table) (said_dims statements) f
    ⊎ (IsUnknown causes.UnknownName (texts (class_names (classes statements))) (used_classes statements) f
    ⊎ (IsTwice (once statements) f ⊎ (IsUnknownParam statements f ⊎ IsLeftOut statements f)))

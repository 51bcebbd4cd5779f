-- What is wrong with the values in the bodies of classes and entries: one record for each rule.
use Rattle.std.specs.Prelude.{◌≡◌, ◌⊎◌, List, [], None, Some}
use Rattle.xdg_base.specs.Faults.{fault_at}
use Rattle.xdg_ast.specs.declared.names.Pair.{Pair}
use Rattle.xdg_ast.specs.declared.grammar.ClassParam.{ClassParam}
use Rattle.xdg_base.specs.declared.faults.Cause.TheVariants as causes
use Rattle.xdg_base.specs.declared.faults.Fault.{Fault}
use Rattle.xdg_domain.specs.Shapes.{Shape}
use Rattle.xdg_terms.specs.Offences.{OpenOffends}
use Rattle.xdg_terms.specs.Stray.{IsStrayParam}
use Rattle.xdg_ast.specs.Misnamed.{IsAgain}
use Rattle.xdg_types.specs.Parts.{Statement, keys}
use Rattle.xdg_types.specs.Table.{Table}
use Rattle.xdg_classes.specs.Bodies.{Term, Said, Called, records, calls}
use Rattle.xdg_classes.specs.Definitions.{ClassDef, Scoped, bodies, classes}
use Rattle.xdg_classes.specs.Wants.{feature_shape, named_bodies, Wants}
use Rattle.xdg_facts.specs.Membership.{In}

-- something is said of a feature that the dimension hasn't; its term isn't looked at
pub record IsUnknownFeature (statements : List Statement) (table : Table) (f : Fault) : Type 0 where
  pub scoped : Scoped
  pub among : In (bodies statements) scoped
  pub said : Said
  pub stands : In (records scoped.body) said
  pub pair : Pair Term
  pub has : In said.pairs pair
  pub missing : feature_shape table said.dim.text pair.key.text ≡ None
  pub fault : f ≡ fault_at causes.UnknownName pair.key.span.start

-- something is said of a feature of which an earlier pair of the same record says something too
pub record IsFeatureTwice (statements : List Statement) (f : Fault) : Type 0 where
  pub scoped : Scoped
  pub among : In (bodies statements) scoped
  pub said : Said
  pub stands : In (records scoped.body) said
  pub again : IsAgain (keys said.pairs) f

-- the term of a feature is wrong at the type of the feature, where the parameters of the class are open
pub record IsWrongFeature (statements : List Statement) (table : Table) (f : Fault) : Type 0 where
  pub scoped : Scoped
  pub among : In (bodies statements) scoped
  pub said : Said
  pub stands : In (records scoped.body) said
  pub pair : Pair Term
  pub has : In said.pairs pair
  pub shape : Shape
  pub feature : feature_shape table said.dim.text pair.key.text ≡ Some shape
  pub offends : OpenOffends scoped.params shape pair.value f

-- an argument is wrong at a type that is wanted of the parameter, where the parameters of the class around it are open
pub record IsWrongArgument (statements : List Statement) (table : Table) (f : Fault) : Type 0 where
  pub scoped : Scoped
  pub among : In (bodies statements) scoped
  pub call : Called
  pub stands : In (calls scoped.body) call
  pub pair : Pair Term
  pub has : In call.args pair
  pub shape : Shape
  pub wanted : Wants table (named_bodies statements) call.name.text pair.key.text shape
  pub offends : OpenOffends scoped.params shape pair.value f

-- a default is wrong at a type that is wanted of its parameter; nothing is open in it
pub record IsWrongDefault (statements : List Statement) (table : Table) (f : Fault) : Type 0 where
  pub class : ClassDef
  pub among : In (classes statements) class
  pub param : ClassParam
  pub has : In class.params param
  pub term : Term
  pub preset : param.preset ≡ Some term
  pub shape : Shape
  pub wanted : Wants table (named_bodies statements) class.name.text param.name.text shape
  pub offends : OpenOffends [] shape term f

-- a parameter stands in what is said of a feature that is none of the class
pub record IsStrayInFeature (statements : List Statement) (f : Fault) : Type 0 where
  pub scoped : Scoped
  pub among : In (bodies statements) scoped
  pub said : Said
  pub stands : In (records scoped.body) said
  pub pair : Pair Term
  pub has : In said.pairs pair
  pub offends : IsStrayParam scoped.params pair.value f

-- the same in an argument
pub record IsStrayInArgument (statements : List Statement) (f : Fault) : Type 0 where
  pub scoped : Scoped
  pub among : In (bodies statements) scoped
  pub call : Called
  pub stands : In (calls scoped.body) call
  pub pair : Pair Term
  pub has : In call.args pair
  pub offends : IsStrayParam scoped.params pair.value f

-- a parameter stands in a default
pub record IsStrayInDefault (statements : List Statement) (f : Fault) : Type 0 where
  pub class : ClassDef
  pub among : In (classes statements) class
  pub param : ClassParam
  pub has : In class.params param
  pub term : Term
  pub preset : param.preset ≡ Some term
  pub offends : IsStrayParam [] term f

-- what is wrong with the values in bodies
abbrev pub ValueOffends : List Statement → Table → Fault → Type 0
ValueOffends statements table f =
    IsUnknownFeature statements table f
    ⊎ (IsFeatureTwice statements f
    ⊎ (IsWrongFeature statements table f
    ⊎ (IsWrongArgument statements table f
    ⊎ (IsWrongDefault statements table f
    ⊎ (IsStrayInFeature statements f ⊎ (IsStrayInArgument statements f ⊎ IsStrayInDefault statements f))))))

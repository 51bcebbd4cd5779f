-- The types that are wanted of the parameters of classes.
use Rattle.std.specs.Prelude.{◌≡◌, ℕ, List, [], ◌∷◌, map, Option, None, Some, if◌then◌else◌, bytes_eq}
use Rattle.xdg_ast.specs.declared.names.Pair.{Pair}
use Rattle.xdg_domain.specs.declared.types.Ty.{Ty}
use Rattle.xdg_domain.specs.Shapes.{Shape, shape}
use Rattle.xdg_terms.specs.Wanted.{params_in}
use Rattle.xdg_types.specs.declared.table.DimType.{DimType}
use Rattle.xdg_types.specs.Parts.{Statement}
use Rattle.xdg_types.specs.Table.{Table, dim_named}
use Rattle.xdg_classes.specs.Bodies.{Term, Body, body, Said, Called, records, calls}
use Rattle.xdg_classes.specs.Definitions.{ClassDef, classes, param_names}
use Rattle.xdg_facts.specs.Membership.{In}
use Rattle.xdg_ast.specs.Texts.{texts}

-- a body with a name and with the parameters that may stand in it
pub record NamedBody : Type 0 where
  pub name : List ℕ
  pub params : List (List ℕ)
  pub body : Body

abbrev pub named : ClassDef → NamedBody
named c = record { name = c.name.text; params = texts (param_names c.params); body = body c.body.kind }

-- the classes of a grammar
abbrev pub named_bodies : List Statement → List NamedBody
named_bodies statements = map named (classes statements)

-- ---- features

-- the type of the first feature with that name
abbrev pub type_named : List (List ℕ × Ty) → List ℕ → Option Shape
type_named [] name = None
type_named (f ∷ fs) name = if bytes_eq f.0 name then Some (shape f.1) else type_named fs name

abbrev pub feature_in : Option DimType → List ℕ → Option Shape
feature_in None name = None
feature_in (Some d) name = type_named d.fields name

-- the type of a feature of a dimension, where both are there
abbrev pub feature_shape : Table → List ℕ → List ℕ → Option Shape
feature_shape table dim name = feature_in (dim_named table.dims dim) name

-- ---- wanted types

-- A type is wanted of a parameter of a class where the parameter stands in its body: in what is said of a feature, by
-- the type of the feature; and in an argument of a use, by each type that is wanted of the parameter of the used class.
-- Nothing else is wanted.
pub data Wants (table : Table) (cs : List NamedBody) : List ℕ → List ℕ → Shape → Type 0 where
  at_feature : (c : NamedBody) (said : Said) (pair : Pair Term) (s : Shape) (param : List ℕ) (u : Shape)
      → In cs c → In (records c.body) said → In said.pairs pair → feature_shape table said.dim.text pair.key.text ≡ Some s
      → In (params_in c.params s pair.value) (param, u)
      → Wants table cs c.name param u
  at_argument : (c : NamedBody) (call : Called) (pair : Pair Term) (s : Shape) (param : List ℕ) (u : Shape)
      → In cs c → In (calls c.body) call → In call.args pair → Wants table cs call.name.text pair.key.text s → In (params_in c.params s pair.value) (param, u)
      → Wants table cs c.name param u

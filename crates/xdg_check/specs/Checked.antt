-- A checked grammar: what it has, and what it keeps.
use Rattle.std.specs.Prelude.{◌≡◌, ℕ, ◌<◌, List, [], length, map, slice_get, slice_index_or, Some}
use Rattle.xdg_ast.specs.declared.names.Name.{Name}
use Rattle.xdg_ast.specs.declared.names.Pair.{Pair}
use Rattle.xdg_domain.specs.Shapes.{Shape}
use Rattle.xdg_names.specs.Texts.{place_of}
use Rattle.xdg_types.specs.declared.table.DimType.{DimType}
use Rattle.xdg_types.specs.Table.{Table, Typed, typed, IsTable}
use Rattle.xdg_terms.specs.Stray.{tokens}
use Rattle.xdg_classes.specs.Bodies.{Term, Body, body, Said, Called, records, calls}
use Rattle.xdg_types.specs.Parts.{keys}
use Rattle.xdg_classes.specs.Wants.{NamedBody, Wants}
use Rattle.xdg_principles.specs.declared.building.PrincipleUse.{PrincipleUse}
use Rattle.xdg_principles.specs.Typed.{IsTypedUse}
use Rattle.xdg_check.specs.declared.checked.Class.{Class}
use Rattle.xdg_check.specs.declared.checked.EntryDef.{EntryDef}
use Rattle.xdg_check.specs.Counts.{class_texts, uses, combos, AreCounted}
use Rattle.xdg_check.specs.Lex.{HasLex}
use Rattle.xdg_facts.specs.Membership.{In, Differ}
use Rattle.xdg_ast.specs.Texts.{texts}
use Rattle.xdg_terms.specs.Replaced.{IsOpenRight}

-- ---- what it has

pub record Parts : Type 0 where
  pub types : Table
  pub principles : List PrincipleUse
  pub classes : List Class
  pub entries : List EntryDef
  -- the places of the classes, each after those that its body uses
  pub order : List ℕ

-- ---- bodies

-- the body of a class with the class's name and parameters
abbrev pub named_body : Class → NamedBody
named_body c = record { name = c.name; params = c.params; body = body c.body.kind }

abbrev pub named_bodies : List Class → List NamedBody
named_bodies cs = map named_body cs

-- ---- what it keeps

-- a use names a class, and binds exactly the parameters of that class, each once
pub record IsBound (cs : List Class) (call : Called) : Type 0 where
  pub class : Class
  pub stands : In cs class
  pub name : class.name ≡ call.name.text
  pub once : Differ (texts (keys call.args))
  pub known : (param : List ℕ) → In (texts (keys call.args)) param → In class.params param
  pub given : (param : List ℕ) → In class.params param → In (texts (keys call.args)) param

-- each parameter that stands in the term is one of these
abbrev pub IsScoped : List (List ℕ) → Term → Type 0
IsScoped params t = (name : Name) → In (tokens t.kind) name → In params name.text

-- the key is a feature, and the term is right where its type is wanted
pub record IsRightPair (features : Typed) (params : List (List ℕ)) (pair : Pair Term) : Type 0 where
  pub type : Shape
  pub has : In features (pair.key.text, type)
  pub right : IsOpenRight params type pair.value
  pub scoped : IsScoped params pair.value

-- the dimension is defined, and its features are said, each once, by terms that are right
pub record IsRightRecord (table : Table) (params : List (List ℕ)) (said : Said) : Type 0 where
  pub dim : DimType
  pub defined : In table.dims dim
  pub name : dim.name ≡ said.dim.text
  pub once : Differ (texts (keys said.pairs))
  pub pairs : (pair : Pair Term) → In said.pairs pair → IsRightPair (typed dim.fields) params pair

-- the use binds what it has to, and each argument is right where any type is wanted that is wanted of its parameter
pub record IsRightCall (table : Table) (cs : List Class) (params : List (List ℕ)) (call : Called) : Type 0 where
  pub bound : IsBound cs call
  pub right : (pair : Pair Term) → In call.args pair → (s : Shape) → Wants table (named_bodies cs) call.name.text pair.key.text s → IsOpenRight params s pair.value
  pub scoped : (pair : Pair Term) → In call.args pair → IsScoped params pair.value

-- each record and each use in the body is right, where these parameters may stand
pub record IsRightBody (table : Table) (cs : List Class) (params : List (List ℕ)) (b : Body) : Type 0 where
  pub said : (said : Said) → In (records b) said → IsRightRecord table params said
  pub called : (call : Called) → In (calls b) call → IsRightCall table cs params call

-- each place stands in the order once, and each class after those that its body uses
pub record IsOrder (cs : List Class) (order : List ℕ) : Type 0 where
  pub count : length order ≡ length cs
  pub within : (i : ℕ) → i < length order → slice_index_or order i 0 < length cs
  pub placed : (k : ℕ) → k < length cs → In order k
  pub after : (i : ℕ) → i < length order → (c : Class) → slice_get cs (slice_index_or order i 0) ≡ Some c
      → (call : Called) → In (calls (body c.body.kind)) call
      → (j : ℕ) × ((j < i) × (place_of (class_texts cs) call.name.text ≡ Some (slice_index_or order j 0)))

pub record IsChecked (parts : Parts) : Type 0 where
  pub types : IsTable parts.types
  pub lex : HasLex parts.types
  -- each use of a principle names what is there, of the wanted types
  pub principles : (u : PrincipleUse) → In parts.principles u → IsTypedUse parts.types u
  -- no two classes have one name, and no two parameters of a class
  pub names : Differ (class_texts parts.classes)
  pub params : (c : Class) → In parts.classes c → Differ c.params
  pub ordered : IsOrder parts.classes parts.order
  pub classes : (c : Class) → In parts.classes c → IsRightBody parts.types parts.classes c.params (body c.body.kind)
  -- no parameter stands in an entry
  pub entries : (e : EntryDef) → In parts.entries e → IsRightBody parts.types parts.classes [] (body e.body.kind)
  pub uses : AreCounted uses (λ c. c.uses) parts.classes
  pub combos : AreCounted combos (λ c. c.combos) parts.classes

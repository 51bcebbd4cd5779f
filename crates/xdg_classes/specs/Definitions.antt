-- The classes and entries of a grammar.
use Rattle.std.specs.Prelude.{ℕ, List, [], ◌∷◌, ◌++◌, map, flat_map, Option, None, Some, if◌then◌else◌, bytes_eq}
use Rattle.xdg_ast.specs.declared.names.Name.{Name}
use Rattle.xdg_ast.specs.declared.grammar.ClassParam.{ClassParam}
use Rattle.xdg_ast.specs.declared.grammar.StatementKind.{StatementKind}
use Rattle.xdg_ast.specs.declared.grammar.StatementKind.TheVariants as s
use Rattle.xdg_types.specs.Parts.{Statement}
use Rattle.xdg_classes.specs.Bodies.{Expr, Body, body}
use Rattle.xdg_ast.specs.Texts.{texts}

-- `defclass c P Q: t {e}`
pub record ClassDef : Type 0 where
  pub name : Name
  pub params : List ClassParam
  pub body : Expr

abbrev pub class : StatementKind → List ClassDef
class (s.DefClass name params e) = record { name = name; params = params; body = e } ∷ []
class _ = []

-- the classes, in the order of the text
abbrev pub classes : List Statement → List ClassDef
classes statements = flat_map (λ statement. class statement.kind) statements

-- `defentry {e}`, with the place of its word
pub record EntryDef : Type 0 where
  pub at : ℕ
  pub body : Expr

abbrev pub entry_at : ℕ → StatementKind → List EntryDef
entry_at at (s.DefEntry e) = record { at = at; body = e } ∷ []
entry_at at _ = []

abbrev pub entry : Statement → List EntryDef
entry statement = entry_at statement.span.start statement.kind

-- the entries, in the order of the text
abbrev pub entries : List Statement → List EntryDef
entries statements = flat_map entry statements

abbrev pub class_names : List ClassDef → List Name
class_names cs = map (λ c. c.name) cs

abbrev pub param_names : List ClassParam → List Name
param_names params = map (λ param. param.name) params

-- the first class with that name
abbrev pub class_named : List ClassDef → List ℕ → Option ClassDef
class_named [] name = None
class_named (c ∷ cs) name = if bytes_eq c.name.text name then Some c else class_named cs name

-- A body with the names of the parameters that may stand in it: those of its class, and none in an entry.
pub record Scoped : Type 0 where
  pub params : List (List ℕ)
  pub body : Body

abbrev pub scoped : Statement → List Scoped
scoped statement =
    map (λ c. record { params = texts (param_names c.params); body = body c.body.kind }) (class statement.kind)
    ++ map (λ e. record { params = []; body = body e.body.kind }) (entry statement)

-- all bodies, in the order of the text
abbrev pub bodies : List Statement → List Scoped
bodies statements = flat_map scoped statements

-- The dimensions and the types of a grammar.
use Rattle.std.specs.Prelude.{ℕ, List, [], ◌∷◌, map, flat_map}
use Rattle.xdg_ast.specs.declared.names.Name.{Name}
use Rattle.xdg_ast.specs.declared.names.Pair.{Pair}
use Rattle.xdg_ast.specs.declared.names.Spanned.{Spanned}
use Rattle.xdg_ast.specs.declared.types.TypeKind.{TypeKind}
use Rattle.xdg_ast.specs.declared.grammar.DimPartKind.{DimPartKind}
use Rattle.xdg_ast.specs.declared.grammar.DimPartKind.TheVariants as p
use Rattle.xdg_ast.specs.declared.grammar.StatementKind.{StatementKind}
use Rattle.xdg_ast.specs.declared.grammar.StatementKind.TheVariants as s

abbrev pub TypeTerm : Type 0
TypeTerm = Spanned TypeKind

abbrev pub DimPart : Type 0
DimPart = Spanned DimPartKind

abbrev pub Statement : Type 0
Statement = Spanned StatementKind

-- ---- statements

-- `defdim d {..}`
abbrev pub Dimension : Type 0
Dimension = Name × List DimPart

abbrev pub dimension : StatementKind → List Dimension
dimension (s.DefDim name parts) = (name, parts) ∷ []
dimension _ = []

-- the dimensions, in the order of the text
abbrev pub dimensions : List Statement → List Dimension
dimensions statements = flat_map (λ statement. dimension statement.kind) statements

abbrev pub dim_names : List Statement → List Name
dim_names statements = map (λ dim. dim.0) (dimensions statements)

abbrev pub used_name : StatementKind → List Name
used_name (s.UseDim name) = name ∷ []
used_name _ = []

-- the names that `usedim` statements give, in the order of the text
abbrev pub used_names : List Statement → List Name
used_names statements = flat_map (λ statement. used_name statement.kind) statements

-- the places of these statements
abbrev pub used_places : List Statement → List ℕ
used_places statements = flat_map (λ statement. map (λ name. statement.span.start) (used_name statement.kind)) statements

-- ---- parts of dimensions

pub record Definition : Type 0 where
  pub name : Name
  pub body : TypeTerm

abbrev pub definition : DimPartKind → List Definition
definition (p.DefType name type) = record { name = name; body = type } ∷ []
definition _ = []

abbrev pub definitions_in : List DimPart → List Definition
definitions_in parts = flat_map (λ part. definition part.kind) parts

-- the definitions of types in all dimensions, in the order of the text
abbrev pub definitions : List Statement → List Definition
definitions statements = flat_map (λ dim. definitions_in dim.1) (dimensions statements)

abbrev pub defined_names : List Statement → List Name
defined_names statements = map (λ d. d.name) (definitions statements)

abbrev pub label_type : DimPartKind → List TypeTerm
label_type (p.LabelType type) = type ∷ []
label_type _ = []

abbrev pub attrs_type : DimPartKind → List TypeTerm
attrs_type (p.AttrsType type) = type ∷ []
attrs_type _ = []

abbrev pub entry_type : DimPartKind → List TypeTerm
entry_type (p.EntryType type) = type ∷ []
entry_type _ = []

abbrev pub in_parts : (DimPartKind → List TypeTerm) → List DimPart → List TypeTerm
in_parts types parts = flat_map (λ part. types part.kind) parts

-- the type that stands in a part
abbrev pub type_in : DimPartKind → List TypeTerm
type_in (p.DefType name type) = type ∷ []
type_in (p.LabelType type) = type ∷ []
type_in (p.AttrsType type) = type ∷ []
type_in (p.EntryType type) = type ∷ []
type_in _ = []

-- all types in the order of the text
abbrev pub types : List Statement → List TypeTerm
types statements = flat_map (λ dim. in_parts type_in dim.1) (dimensions statements)

-- the keys of pairs
abbrev pub keys : {A : Type 0} → List (Pair A) → List Name
keys pairs = map (λ pair. pair.key) pairs

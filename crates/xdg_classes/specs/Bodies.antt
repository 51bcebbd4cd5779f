-- The bodies of classes and entries as trees.
use Rattle.std.specs.Prelude.{List, [], ◌∷◌, ◌++◌, Option, None, Some}
use Rattle.xdg_ast.specs.declared.names.Name.{Name}
use Rattle.xdg_ast.specs.declared.names.Pair.{Pair}
use Rattle.xdg_ast.specs.declared.names.Spanned.{Spanned}
use Rattle.xdg_ast.specs.declared.terms.TermKind.{TermKind}
use Rattle.xdg_ast.specs.declared.expressions.ExprKind.{ExprKind}
use Rattle.xdg_ast.specs.declared.expressions.ExprKind.TheOpen.{ExprKind-F}
use Rattle.xdg_ast.specs.declared.expressions.ExprKind.TheFolds.{fold-ExprKind}

abbrev pub Term : Type 0
Term = Spanned TermKind

-- pairs of a key and a term: what is said of features, or what parameters are to stand for
abbrev pub Pairs : Type 0
Pairs = List (Pair Term)

abbrev pub Expr : Type 0
Expr = Spanned ExprKind

mutual
  pub data Body : Type 0 where
    -- `a | b`
    either : Bodies → Body
    -- `a & b`
    both : Bodies → Body
    -- `dim d {f: t}`
    saying : Name → Pairs → Body
    -- `c {P: t}`, with no pair where the braces are left out
    calling : Name → Pairs → Body

  pub data Bodies : Type 0 where
    no_body : Bodies
    body_then : Body → Bodies → Bodies

abbrev pub bodies_of : List (Spanned Body) → Bodies
bodies_of [] = no_body
bodies_of (b ∷ bs) = body_then b.kind (bodies_of bs)

abbrev pub given : Option Pairs → Pairs
given None = []
given (Some pairs) = pairs

abbrev pub layer : ExprKind-F Body → Body
layer (ExprKind-F.Or members) = either (bodies_of members)
layer (ExprKind-F.And members) = both (bodies_of members)
layer (ExprKind-F.Dim dim pairs) = saying dim pairs
layer (ExprKind-F.Use name args) = calling name (given args)

-- the tree of an expression
abbrev pub body : ExprKind → Body
body = fold-ExprKind Body layer

-- ---- what stands in a body

-- what `dim d {..}` says
pub record Said : Type 0 where
  pub dim : Name
  pub pairs : Pairs

-- a use of a class, with its arguments
pub record Called : Type 0 where
  pub name : Name
  pub args : Pairs

-- the records, in the order of the text
abbrev mutual
  pub records : Body → List Said
  records (either bs) = records_in bs
  records (both bs) = records_in bs
  records (saying dim pairs) = record { dim = dim; pairs = pairs } ∷ []
  records (calling name args) = []

  pub records_in : Bodies → List Said
  records_in no_body = []
  records_in (body_then b bs) = records b ++ records_in bs

-- the uses of classes, in the order of the text
abbrev mutual
  pub calls : Body → List Called
  calls (either bs) = calls_in bs
  calls (both bs) = calls_in bs
  calls (saying dim pairs) = []
  calls (calling name args) = record { name = name; args = args } ∷ []

  pub calls_in : Bodies → List Called
  calls_in no_body = []
  calls_in (body_then b bs) = calls b ++ calls_in bs

-- The trees of bodies, form by form, and what stands in them.
use Rattle.std.proofs.Common.{◌≡◌, ◌≤◌, ℕ, List, [], ◌∷◌, ◌++◌, length, take, map, flat_map, refl, sym, ap, ◌∙◌, Option}
use Rattle.std.proofs.lemmas.List.{take_all, map-append}
use Rattle.xdg_ast.specs.declared.names.Name.{Name}
use Rattle.xdg_ast.specs.declared.names.Spanned.{Spanned}
use Rattle.xdg_ast.specs.declared.expressions.ExprKind.{ExprKind}
use Rattle.xdg_ast.specs.declared.expressions.ExprKind.TheVariants as v
use Rattle.xdg_ast.specs.declared.expressions.ExprKind.TheOpen.{ExprKind-F}
use Rattle.xdg_ast.specs.declared.expressions.ExprKind.TheFolds.{fold-roll-ExprKind}
use Rattle.xdg_classes.specs.declared.bodies.Record.{Record}
use Rattle.xdg_classes.specs.declared.bodies.Call.{Call}
use Rattle.xdg_classes.specs.Lent.{said, called}
use Rattle.xdg_classes.specs.Bodies.{Pairs, Expr, Body, either, both, saying, calling, Bodies, no_body, body_then, bodies_of, given, layer, body, records, records_in, calls, calls_in}

-- the trees of some expressions
abbrev pub trees : List Expr → Bodies
trees [] = no_body
trees (e ∷ es) = body_then (body e.kind) (trees es)

abbrev treed : Expr → Spanned Body
treed e = record { kind = body e.kind; span = e.span }

trees_are : (es : List Expr) → bodies_of (map treed es) ≡ trees es
trees_are [] = refl
trees_are (e ∷ es) = ap (body_then (body e.kind)) (trees_are es)

pub body_or : (es : List Expr) → body (v.Or es) ≡ either (trees es)
body_or es = ap body (sym (v.rolls-Or es)) ∙ fold-roll-ExprKind Body layer (ExprKind-F.Or es) ∙ ap either (trees_are es)

pub body_and : (es : List Expr) → body (v.And es) ≡ both (trees es)
body_and es = ap body (sym (v.rolls-And es)) ∙ fold-roll-ExprKind Body layer (ExprKind-F.And es) ∙ ap both (trees_are es)

pub body_dim : (dim : Name) (pairs : Pairs) → body (v.Dim dim pairs) ≡ saying dim pairs
body_dim dim pairs = ap body (sym (v.rolls-Dim dim pairs)) ∙ fold-roll-ExprKind Body layer (ExprKind-F.Dim dim pairs)

pub body_use : (name : Name) (args : Option Pairs) → body (v.Use name args) ≡ calling name (given args)
body_use name args = ap body (sym (v.rolls-Use name args)) ∙ fold-roll-ExprKind Body layer (ExprKind-F.Use name args)

-- ---- what stands in them

pub records_dim : (dim : Name) (pairs : Pairs) → records (body (v.Dim dim pairs)) ≡ record { dim = dim; pairs = pairs } ∷ []
records_dim dim pairs = ap records (body_dim dim pairs)

pub records_use : (name : Name) (args : Option Pairs) → records (body (v.Use name args)) ≡ []
records_use name args = ap records (body_use name args)

pub calls_dim : (dim : Name) (pairs : Pairs) → calls (body (v.Dim dim pairs)) ≡ []
calls_dim dim pairs = ap calls (body_dim dim pairs)

pub calls_use : (name : Name) (args : Option Pairs) → calls (body (v.Use name args)) ≡ record { name = name; args = given args } ∷ []
calls_use name args = ap calls (body_use name args)

pub records_all : (es : List Expr) → records_in (trees es) ≡ flat_map (λ e. records (body e.kind)) es
records_all [] = refl
records_all (e ∷ es) = ap (λ rs. records (body e.kind) ++ rs) (records_all es)

pub calls_all : (es : List Expr) → calls_in (trees es) ≡ flat_map (λ e. calls (body e.kind)) es
calls_all [] = refl
calls_all (e ∷ es) = ap (λ cs. calls (body e.kind) ++ cs) (calls_all es)

-- ---- what a walk over an expression has added, at the end of its loop

pub walked : {A : Type 0} (of : Body → List A) (kind : ExprKind) (es items : List Expr) (i : ℕ) (old made : List A) → of (body kind) ≡ flat_map (λ e. of (body e.kind)) es → items ≡ es → length items ≤ i
    → made ≡ old ++ flat_map (λ e. of (body e.kind)) (take i items) → made ≡ old ++ of (body kind)
walked of kind es items i old made is same past sum =
    sum ∙ ap (λ xs. old ++ flat_map (λ (e : Expr). of (body e.kind)) xs) (take_all i items past ∙ same) ∙ ap (λ ys. old ++ ys) (sym is)

-- ---- what one part adds

pub record_added : (kind : ExprKind) (dim : Name) (pairs : Pairs) (old new : List Record) (lent : Record) → kind ≡ v.Dim dim pairs → said lent ≡ record { dim = dim; pairs = pairs } → new ≡ old ++ lent ∷ []
    → map said new ≡ map said old ++ records (body kind)
record_added kind dim pairs old new lent is shows grown =
    ap (map said) grown ∙ map-append said old (lent ∷ []) ∙ ap (λ r. map said old ++ r ∷ []) shows ∙ sym (ap (λ k. map said old ++ records (body k)) is ∙ ap (λ rs. map said old ++ rs) (records_dim dim pairs))

pub call_added : (kind : ExprKind) (name : Name) (args : Option Pairs) (old new : List Call) (lent : Call) → kind ≡ v.Use name args → called lent ≡ record { name = name; args = given args } → new ≡ old ++ lent ∷ []
    → map called new ≡ map called old ++ calls (body kind)
call_added kind name args old new lent is shows grown =
    ap (map called) grown ∙ map-append called old (lent ∷ []) ∙ ap (λ r. map called old ++ r ∷ []) shows ∙ sym (ap (λ k. map called old ++ calls (body k)) is ∙ ap (λ cs. map called old ++ cs) (calls_use name args))

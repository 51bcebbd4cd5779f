-- The grammar of grammar texts, a line a rule. What stands in brackets is given, so that a rule says how one level looks.
use Rattle.std.specs.Prelude.{ℕ, zero, suc, Bool, ◌&&◌, if◌then◌else◌, List, [], ◌∷◌, map, Option}
use Rattle.xdg_base.specs.declared.places.Span.{Span}
use Rattle.xdg_ast.specs.declared.token.Kind.TheVariants as k
use Rattle.xdg_ast.specs.Lexemes.{Lexeme}
use Rattle.xdg_ast.specs.Contents.{content_of, value_of}
use Rattle.xdg_ast.specs.declared.names.Name.{Name}
use Rattle.xdg_ast.specs.declared.names.Num.{Num}
use Rattle.xdg_ast.specs.declared.names.Pair.{Pair}
use Rattle.xdg_ast.specs.declared.names.Spanned.{Spanned}
use Rattle.xdg_ast.specs.declared.types.TypeKind.{TypeKind}
use Rattle.xdg_ast.specs.declared.types.TypeKind.TheVariants as y
use Rattle.xdg_ast.specs.declared.terms.TermKind.{TermKind}
use Rattle.xdg_ast.specs.declared.terms.TermKind.TheVariants as t
use Rattle.xdg_ast.specs.declared.terms.ElemKind.{ElemKind}
use Rattle.xdg_ast.specs.declared.terms.ElemKind.TheVariants as e
use Rattle.xdg_ast.specs.declared.terms.CardKind.{CardKind}
use Rattle.xdg_ast.specs.declared.terms.CardKind.TheVariants as c
use Rattle.xdg_ast.specs.declared.terms.GenKind.{GenKind}
use Rattle.xdg_ast.specs.declared.terms.GenKind.TheVariants as g
use Rattle.xdg_ast.specs.declared.expressions.ExprKind.{ExprKind}
use Rattle.xdg_ast.specs.declared.expressions.ExprKind.TheVariants as x
use Rattle.xdg_ast.specs.declared.grammar.ClassParam.{ClassParam}
use Rattle.xdg_ast.specs.declared.grammar.DimPartKind.{DimPartKind}
use Rattle.xdg_ast.specs.declared.grammar.DimPartKind.TheVariants as d
use Rattle.xdg_ast.specs.declared.grammar.StatementKind.{StatementKind}
use Rattle.xdg_ast.specs.declared.grammar.StatementKind.TheVariants as s
use Rattle.xdg_ast.specs.Language.{Language, Kinds, is, ◌or◌, Within, full, room, token, nothing, bind, both, either, many, nested, spanned, made, behind, pair, optional, chain}
use Rattle.xdg_base.specs.Texts.{has_text}

abbrev pub Term : Type 0
Term = Spanned TermKind

abbrev pub Elem : Type 0
Elem = Spanned ElemKind

abbrev pub CardTerm : Type 0
CardTerm = Spanned CardKind

abbrev pub Gen : Type 0
Gen = Spanned GenKind

abbrev pub TypeTerm : Type 0
TypeTerm = Spanned TypeKind

abbrev pub Expr : Type 0
Expr = Spanned ExprKind

abbrev pub DimPart : Type 0
DimPart = Spanned DimPartKind

abbrev pub Statement : Type 0
Statement = Spanned StatementKind

-- ---- names and numbers

-- the names of the parameters of the class in whose body something stands
abbrev pub Params : Type 0
Params = List (List ℕ)

abbrev pub is_constant : Kinds
is_constant = is k.Name or is k.Quoted

abbrev pub name_of : Lexeme → Name
name_of token = record { text = content_of token.kind token.text; span = token.span }

abbrev pub number_of : Lexeme → ℕ
number_of token = value_of token.text

abbrev pub num_of : Lexeme → Num
num_of token = record { value = number_of token; span = token.span }

abbrev pub at_span : {A : Type 0} → Span → A → Spanned A
at_span span kind = record { kind = kind; span = span }

-- const
unfoldable pub name : Language Name
name = made name_of (token is_constant)

unfoldable pub names : Language (List Name)
names = many name

unfoldable pub num : Language Num
num = made num_of (token (is k.Number))

unfoldable pub nums : Language (List Num)
nums = many num

-- NUMBER NUMBER
unfoldable pub interval : Language (Num × Num)
interval = pair num num

-- ---- what stands in brackets

pub record Inside : Type 1 where
  pub gen : Language Gen
  pub elems : Language (List Elem)
  pub terms : Language (List (Pair Term))
  pub expr : Language Expr
  pub one_type : Language TypeTerm
  pub two_types : Language (TypeTerm × TypeTerm)
  pub more_types : Language (List TypeTerm)
  pub braced : Language TypeKind
  pub dims : Language (List (Pair Name))
  pub principle : Language (List (Pair Name) × Option (List (Pair Term)))
  pub parts : Language (List DimPart)

abbrev pub in_braces : {A : Type 0} → Within Inside → (Inside → Language A) → Language A
in_braces = nested (is k.LeftBrace) (is k.RightBrace)

abbrev pub in_parentheses : {A : Type 0} → Within Inside → (Inside → Language A) → Language A
in_parentheses = nested (is k.LeftParenthesis) (is k.RightParenthesis)

abbrev pub in_square_brackets : {A : Type 0} → Within Inside → (Inside → Language A) → Language A
in_square_brackets = nested (is k.LeftBracket) (is k.RightBracket)

-- "[" { const } "]"
unfoldable pub bracketed_names : Within Inside → Language (List Name)
bracketed_names w = in_square_brackets w (λ _. names)

-- ---- cardinalities

-- "{" { NUMBER } "}" | "[" NUMBER NUMBER "]"
unfoldable pub hashed : Within Inside → Language CardKind
hashed w = either (made c.Numbers (in_braces w (λ _. nums))) (made (λ n. c.Interval n.0 n.1) (in_square_brackets w (λ _. interval)))

-- "!" | "?" | "*" | "+" | "#" hashed
unfoldable pub card_kind : Within Inside → Language CardKind
card_kind w =
    either (made (λ _. c.One) (token (is k.Exclamation)))
    (either (made (λ _. c.Maybe) (token (is k.Question)))
    (either (made (λ _. c.Any) (token (is k.Star)))
    (either (made (λ _. c.Some1) (token (is k.Plus)))
    (behind (token (is k.Hash)) (hashed w)))))

unfoldable pub card : Within Inside → Language CardTerm
card w = spanned at_span (card_kind w)

-- ---- generators

-- one member is that member, and more are a list of them
abbrev pub conjunction : Span → List Gen → Gen
conjunction span (one ∷ []) = one
conjunction span members = at_span span (g.And members)

abbrev pub disjunction : Span → List Gen → Gen
disjunction span (one ∷ []) = one
disjunction span members = at_span span (g.Or members)

-- gprim = "(" gen ")" | const
unfoldable pub gprim : Within Inside → Language Gen
gprim w = either (in_parentheses w (λ j. j.gen)) (spanned at_span (made g.Const name))

-- gconj = gprim { "&" gprim }
unfoldable pub next_gprim : Within Inside → Language Gen
next_gprim w = behind (token (is k.Ampersand)) (gprim w)

unfoldable pub gprims : Within Inside → Language (List Gen)
gprims w = chain (gprim w) (next_gprim w)

unfoldable pub gconj : Within Inside → Language Gen
gconj w = spanned conjunction (gprims w)

-- gen = gconj { "|" gconj }
unfoldable pub next_gconj : Within Inside → Language Gen
next_gconj w = behind (token (is k.Bar)) (gconj w)

unfoldable pub gconjs : Within Inside → Language (List Gen)
gconjs w = chain (gconj w) (next_gconj w)

unfoldable pub gen : Within Inside → Language Gen
gen w = spanned disjunction (gconjs w)

-- ---- terms

-- a name that is a parameter of the class is that parameter; a quoted text is a constant
abbrev pub named : Params → Lexeme → TermKind
named params token = if is k.Name token.kind && has_text params (content_of token.kind token.text) then t.Param (name_of token) else t.Const (name_of token)

-- term = NUMBER | card | "{" { elem } "}" | "[" { const } "]" | "$" gen | const
unfoldable pub term_kind : Params → Within Inside → Language TermKind
term_kind params w =
    either (made (λ token. t.Number (number_of token)) (token (is k.Number)))
    (either (made t.Braces (in_braces w (λ j. j.elems)))
    (either (made t.Tuple (bracketed_names w))
    (either (made t.Gen (behind (token (is k.Dollar)) (gen w)))
    (either (made (named params) (token is_constant))
    (made t.Card (card w))))))

unfoldable pub term : Params → Within Inside → Language Term
term params w = spanned at_span (term_kind params w)

-- what follows the const of an elem: ":" term | nothing | card
unfoldable pub elem_tail : Params → Within Inside → Language (Name → ElemKind)
elem_tail params w =
    either (made (λ term name. e.Keyed name term) (behind (token (is k.Colon)) (term params w)))
    (either (made (λ card name. e.Count name card) (card w))
    (nothing e.Const))

-- elem = "[" { const } "]" | const elem_tail
unfoldable pub elem_kind : Params → Within Inside → Language ElemKind
elem_kind params w = either (made e.Tuple (bracketed_names w)) (both (λ name make. make name) name (elem_tail params w))

unfoldable pub elem : Params → Within Inside → Language Elem
elem params w = spanned at_span (elem_kind params w)

unfoldable pub elems : Params → Within Inside → Language (List Elem)
elems params w = many (elem params w)

-- const ":" term
unfoldable pub keyed_term : Params → Within Inside → Language (Pair Term)
keyed_term params w = both (λ key value. record { key = key; value = value }) name (behind (token (is k.Colon)) (term params w))

unfoldable pub terms : Params → Within Inside → Language (List (Pair Term))
terms params w = many (keyed_term params w)

-- "{" { const ":" term } "}"
unfoldable pub braced_terms : Within Inside → Language (List (Pair Term))
braced_terms w = in_braces w (λ j. j.terms)

-- ---- expressions

abbrev pub all_of : Span → List Expr → Expr
all_of span (one ∷ []) = one
all_of span members = at_span span (x.And members)

abbrev pub any_of : Span → List Expr → Expr
any_of span (one ∷ []) = one
any_of span members = at_span span (x.Or members)

-- "dim" const "{" { const ":" term } "}"
unfoldable pub dim : Within Inside → Language Expr
dim w = spanned at_span (made (λ said. x.Dim said.0 said.1) (behind (token (is k.Dim)) (pair name (braced_terms w))))

-- const [ "{" { const ":" term } "}" ]
unfoldable pub use_of_class : Within Inside → Language Expr
use_of_class w = spanned at_span (made (λ said. x.Use said.0 said.1) (pair name (optional (braced_terms w))))

-- prim = "dim" .. | "(" expr ")" | const ..
unfoldable pub prim : Within Inside → Language Expr
prim w = either (dim w) (either (in_parentheses w (λ j. j.expr)) (use_of_class w))

-- conj = prim { [ "&" ] prim }
unfoldable pub next_prim : Within Inside → Language Expr
next_prim w = behind (optional (token (is k.Ampersand))) (prim w)

unfoldable pub prims : Within Inside → Language (List Expr)
prims w = chain (prim w) (next_prim w)

unfoldable pub conj : Within Inside → Language Expr
conj w = spanned all_of (prims w)

-- expr = conj { "|" conj }
unfoldable pub next_conj : Within Inside → Language Expr
next_conj w = behind (token (is k.Bar)) (conj w)

unfoldable pub conjs : Within Inside → Language (List Expr)
conjs w = chain (conj w) (next_conj w)

unfoldable pub expr : Within Inside → Language Expr
expr w = spanned any_of (conjs w)

-- ---- types

-- type = "{" .. "}" | "tuple" "(" type { type } ")" | "set" "(" type ")" | "iset" "(" type ")" | "valency" "(" type ")"
--     | "map" "(" type type ")" | "card" | "bool" | "int" | "string" | const
unfoldable pub type_kind : Within Inside → Language TypeKind
type_kind w =
    either (in_braces w (λ j. j.braced))
    (either (made y.Tuple (behind (token (is k.Tuple)) (in_parentheses w (λ j. j.more_types))))
    (either (made y.Set (behind (token (is k.Set)) (in_parentheses w (λ j. j.one_type))))
    (either (made y.ISet (behind (token (is k.ISet)) (in_parentheses w (λ j. j.one_type))))
    (either (made y.Valency (behind (token (is k.Valency)) (in_parentheses w (λ j. j.one_type))))
    (either (made (λ said. y.Map said.0 said.1) (behind (token (is k.Map)) (in_parentheses w (λ j. j.two_types))))
    (either (made (λ _. y.Card) (token (is k.Card)))
    (either (made (λ _. y.Bool) (token (is k.Bool)))
    (either (made (λ _. y.Int) (token (is k.Int)))
    (either (made (λ _. y.Str) (token (is k.String)))
    (made y.Named name))))))))))

unfoldable pub type_term : Within Inside → Language TypeTerm
type_term w = spanned at_span (type_kind w)

-- const ":" type
unfoldable pub keyed_type : Within Inside → Language (Pair TypeTerm)
keyed_type w = both (λ key value. record { key = key; value = value }) name (behind (token (is k.Colon)) (type_term w))

unfoldable pub keyed_types : Within Inside → Language (List (Pair TypeTerm))
keyed_types w = many (keyed_type w)

-- what follows the first const in the braces of a type, and of what kind the type then is:
-- ":" type { const ":" type } | { const }
unfoldable pub braced_tail : Within Inside → Language (Name → TypeKind)
braced_tail w =
    either (both (λ value others name. y.Rec (record { key = name; value = value } ∷ others)) (behind (token (is k.Colon)) (type_term w)) (keyed_types w))
    (made (λ others name. y.Domain (name ∷ others)) names)

-- const braced_tail | nothing
unfoldable pub braced : Within Inside → Language TypeKind
braced w = either (both (λ name make. make name) name (braced_tail w)) (nothing y.Empty)

unfoldable pub more_types : Within Inside → Language (List TypeTerm)
more_types w = chain (type_term w) (type_term w)

unfoldable pub two_types : Within Inside → Language (TypeTerm × TypeTerm)
two_types w = pair (type_term w) (type_term w)

-- ---- dimensions

-- const ":" const
unfoldable pub keyed_name : Language (Pair Name)
keyed_name = both (λ key value. record { key = key; value = value }) name (behind (token (is k.Colon)) name)

unfoldable pub keyed_names : Language (List (Pair Name))
keyed_names = many keyed_name

-- "dims" "{" { const ":" const } "}"
unfoldable pub principle_dims : Within Inside → Language (List (Pair Name))
principle_dims w = behind (token (is k.Dims)) (in_braces w (λ j. j.dims))

-- "args" "{" { const ":" term } "}"
unfoldable pub principle_args : Within Inside → Language (List (Pair Term))
principle_args w = behind (token (is k.Args)) (braced_terms w)

-- principle_dims [ principle_args ]
unfoldable pub principle : Within Inside → Language (List (Pair Name) × Option (List (Pair Term)))
principle w = pair (principle_dims w) (optional (principle_args w))

-- part = "deftype" const type | "deflabeltype" type | "defattrstype" type | "defentrytype" type
--     | "useprinciple" const "{" principle "}" | "output" const | "useoutput" const
unfoldable pub part_kind : Within Inside → Language DimPartKind
part_kind w =
    either (made (λ said. d.DefType said.0 said.1) (behind (token (is k.DefType)) (pair name (type_term w))))
    (either (made d.LabelType (behind (token (is k.DefLabelType)) (type_term w)))
    (either (made d.AttrsType (behind (token (is k.DefAttrsType)) (type_term w)))
    (either (made d.EntryType (behind (token (is k.DefEntryType)) (type_term w)))
    (either (made (λ said. d.UsePrinciple said.0 said.1.0 said.1.1) (behind (token (is k.UsePrinciple)) (pair name (in_braces w (λ j. j.principle)))))
    (either (made d.Output (behind (token (is k.Output)) name))
    (made d.UseOutput (behind (token (is k.UseOutput)) name)))))))

unfoldable pub part : Within Inside → Language DimPart
part w = spanned at_span (part_kind w)

unfoldable pub parts : Within Inside → Language (List DimPart)
parts w = many (part w)

-- ---- levels of brackets

unfoldable pub inside : Params → Within Inside → Inside
inside params w = record {
  gen = gen w;
  elems = elems params w;
  terms = terms params w;
  expr = expr w;
  one_type = type_term w;
  two_types = two_types w;
  more_types = more_types w;
  braced = braced w;
  dims = keyed_names;
  principle = principle w;
  parts = parts w;
}

-- what may stand in brackets where so many more may be opened, in the body of a class with these parameters
unfoldable pub under : Params → ℕ → Within Inside
under params zero = full
under params (suc n) = room (inside params (under params n))

-- ---- statements, where so many brackets may be opened

-- NAME [ ":" term ]
unfoldable pub preset : ℕ → Language (Option Term)
preset n = optional (behind (token (is k.Colon)) (term [] (under [] n)))

unfoldable pub class_param : ℕ → Language ClassParam
class_param n = both (λ name given. record { name = name; preset = given }) (made name_of (token (is k.Name))) (preset n)

unfoldable pub class_params : ℕ → Language (List ClassParam)
class_params n = many (class_param n)

abbrev pub params_of : List ClassParam → Params
params_of params = map (λ param. param.name.text) params

-- "{" expr "}" in the body of a class with these parameters
unfoldable pub body : Params → ℕ → Language Expr
body params n = in_braces (under params n) (λ j. j.expr)

-- { NAME [ ":" term ] } "{" expr "}"
unfoldable pub class_tail : ℕ → Language (List ClassParam × Expr)
class_tail n = bind (λ params expr. (params, expr)) (class_params n) (λ params. body (params_of params) n) (body [] n)

-- statement = "usedim" const | "defdim" const "{" { part } "}" | "defclass" const class_tail | "defentry" "{" expr "}"
unfoldable pub statement_kind : ℕ → Language StatementKind
statement_kind n =
    either (made s.UseDim (behind (token (is k.UseDim)) name))
    (either (made (λ said. s.DefDim said.0 said.1) (behind (token (is k.DefDim)) (pair name (in_braces (under [] n) (λ j. j.parts)))))
    (either (made (λ said. s.DefClass said.0 said.1.0 said.1.1) (behind (token (is k.DefClass)) (pair name (class_tail n))))
    (made s.DefEntry (behind (token (is k.DefEntry)) (body [] n)))))

unfoldable pub statement : ℕ → Language Statement
statement n = spanned at_span (statement_kind n)

-- grammar = { statement }
unfoldable pub statements : ℕ → Language (List Statement)
statements n = many (statement n)

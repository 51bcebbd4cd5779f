-- Trees without their places, and which trees are the same up to places.
use Rattle.std.specs.Prelude.{◌≡◌, List, map, Option, Some, None}
use Rattle.xdg_base.specs.declared.places.Span.{Span}
use Rattle.xdg_ast.specs.declared.names.Name.{Name}
use Rattle.xdg_ast.specs.declared.names.Num.{Num}
use Rattle.xdg_ast.specs.declared.names.Pair.{Pair}
use Rattle.xdg_ast.specs.declared.names.Spanned.{Spanned}
use Rattle.xdg_ast.specs.declared.types.TypeKind.{TypeKind}
use Rattle.xdg_ast.specs.declared.types.TypeKind.TheVariants as y
use Rattle.xdg_ast.specs.declared.types.TypeKind.TheOpen.{TypeKind-F}
use Rattle.xdg_ast.specs.declared.types.TypeKind.TheFolds.{fold-TypeKind}
use Rattle.xdg_ast.specs.declared.terms.TermKind.{TermKind}
use Rattle.xdg_ast.specs.declared.terms.TermKind.TheVariants as t
use Rattle.xdg_ast.specs.declared.terms.ElemKind.{ElemKind}
use Rattle.xdg_ast.specs.declared.terms.ElemKind.TheVariants as e
use Rattle.xdg_ast.specs.declared.terms.ElemKind.TheOpen.{TermKind-F, ElemKind-F}
use Rattle.xdg_ast.specs.declared.terms.ElemKind.TheFolds.{fold-TermKind, fold-ElemKind}
use Rattle.xdg_ast.specs.declared.terms.CardKind.{CardKind}
use Rattle.xdg_ast.specs.declared.terms.CardKind.TheVariants as c
use Rattle.xdg_ast.specs.declared.terms.GenKind.{GenKind}
use Rattle.xdg_ast.specs.declared.terms.GenKind.TheVariants as g
use Rattle.xdg_ast.specs.declared.terms.GenKind.TheOpen.{GenKind-F}
use Rattle.xdg_ast.specs.declared.terms.GenKind.TheFolds.{fold-GenKind}
use Rattle.xdg_ast.specs.declared.expressions.ExprKind.{ExprKind}
use Rattle.xdg_ast.specs.declared.expressions.ExprKind.TheVariants as x
use Rattle.xdg_ast.specs.declared.expressions.ExprKind.TheOpen.{ExprKind-F}
use Rattle.xdg_ast.specs.declared.expressions.ExprKind.TheFolds.{fold-ExprKind}
use Rattle.xdg_ast.specs.declared.grammar.ClassParam.{ClassParam}
use Rattle.xdg_ast.specs.declared.grammar.DimPartKind.{DimPartKind}
use Rattle.xdg_ast.specs.declared.grammar.DimPartKind.TheVariants as d
use Rattle.xdg_ast.specs.declared.grammar.StatementKind.{StatementKind}
use Rattle.xdg_ast.specs.declared.grammar.StatementKind.TheVariants as s
use Rattle.xdg_ast.specs.declared.grammar.Grammar.{Grammar}

-- the place that stands for no place
abbrev pub nowhere : Span
nowhere = record { start = 0; end = 0 }

-- a part, where the parts inside it have no places
abbrev pub bare : {A : Type 0} → Spanned A → Spanned A
bare part = record { kind = part.kind; span = nowhere }

abbrev pub bare_part : {A : Type 0} → (A → A) → Spanned A → Spanned A
bare_part kind part = record { kind = kind part.kind; span = nowhere }

abbrev pub bare_name : Name → Name
bare_name name = record { text = name.text; span = nowhere }

abbrev pub bare_names : List Name → List Name
bare_names names = map bare_name names

abbrev pub bare_num : Num → Num
bare_num num = record { value = num.value; span = nowhere }

abbrev pub bare_pair : {A : Type 0} → (A → A) → Pair A → Pair A
bare_pair value pair = record { key = bare_name pair.key; value = value pair.value }

abbrev pub bare_option : {A : Type 0} → (A → A) → Option A → Option A
bare_option value None = None
bare_option value (Some given) = Some (value given)

unfoldable pub bare_card : CardKind → CardKind
bare_card c.One = c.One
bare_card c.Maybe = c.Maybe
bare_card c.Any = c.Any
bare_card c.Some1 = c.Some1
bare_card (c.Numbers nums) = c.Numbers (map bare_num nums)
bare_card (c.Interval low high) = c.Interval (bare_num low) (bare_num high)

abbrev pub bare_gen_step : GenKind-F GenKind → GenKind
bare_gen_step (GenKind-F.Const name) = g.Const (bare_name name)
bare_gen_step (GenKind-F.And members) = g.And (map bare members)
bare_gen_step (GenKind-F.Or members) = g.Or (map bare members)

abbrev pub bare_gen : GenKind → GenKind
bare_gen = fold-GenKind GenKind bare_gen_step

abbrev pub bare_term_step : TermKind-F ElemKind TermKind → TermKind
bare_term_step (TermKind-F.TermKind::Const name) = t.Const (bare_name name)
bare_term_step (TermKind-F.Param name) = t.Param (bare_name name)
bare_term_step (TermKind-F.Number n) = t.Number n
bare_term_step (TermKind-F.Card card) = t.Card (bare_part bare_card card)
bare_term_step (TermKind-F.Braces elems) = t.Braces (map bare elems)
bare_term_step (TermKind-F.TermKind::Tuple names) = t.Tuple (bare_names names)
bare_term_step (TermKind-F.Gen gen) = t.Gen (bare_part bare_gen gen)

abbrev pub bare_elem_step : ElemKind-F ElemKind TermKind → ElemKind
bare_elem_step (ElemKind-F.Count name card) = e.Count (bare_name name) (bare_part bare_card card)
bare_elem_step (ElemKind-F.Keyed name term) = e.Keyed (bare_name name) (bare term)
bare_elem_step (ElemKind-F.ElemKind::Const name) = e.Const (bare_name name)
bare_elem_step (ElemKind-F.ElemKind::Tuple names) = e.Tuple (bare_names names)

abbrev pub bare_term : TermKind → TermKind
bare_term = fold-TermKind ElemKind TermKind bare_elem_step bare_term_step

abbrev pub bare_elem : ElemKind → ElemKind
bare_elem = fold-ElemKind ElemKind TermKind bare_elem_step bare_term_step

abbrev pub bare_terms : List (Pair (Spanned TermKind)) → List (Pair (Spanned TermKind))
bare_terms pairs = map (bare_pair (bare_part bare_term)) pairs

abbrev pub bare_expr_step : ExprKind-F ExprKind → ExprKind
bare_expr_step (ExprKind-F.Or members) = x.Or (map bare members)
bare_expr_step (ExprKind-F.And members) = x.And (map bare members)
bare_expr_step (ExprKind-F.Dim name pairs) = x.Dim (bare_name name) (bare_terms pairs)
bare_expr_step (ExprKind-F.Use name pairs) = x.Use (bare_name name) (bare_option bare_terms pairs)

abbrev pub bare_expr : ExprKind → ExprKind
bare_expr = fold-ExprKind ExprKind bare_expr_step

abbrev pub bare_type_step : TypeKind-F TypeKind → TypeKind
bare_type_step TypeKind-F.Empty = y.Empty
bare_type_step (TypeKind-F.Domain names) = y.Domain (bare_names names)
bare_type_step (TypeKind-F.Rec pairs) = y.Rec (map (bare_pair bare) pairs)
bare_type_step (TypeKind-F.Tuple types) = y.Tuple (map bare types)
bare_type_step (TypeKind-F.Set type) = y.Set (bare type)
bare_type_step (TypeKind-F.ISet type) = y.ISet (bare type)
bare_type_step (TypeKind-F.Valency type) = y.Valency (bare type)
bare_type_step (TypeKind-F.Map key value) = y.Map (bare key) (bare value)
bare_type_step TypeKind-F.Card = y.Card
bare_type_step TypeKind-F.Bool = y.Bool
bare_type_step TypeKind-F.Int = y.Int
bare_type_step TypeKind-F.Str = y.Str
bare_type_step (TypeKind-F.Named name) = y.Named (bare_name name)

abbrev pub bare_type : TypeKind → TypeKind
bare_type = fold-TypeKind TypeKind bare_type_step

unfoldable pub bare_dim_part : DimPartKind → DimPartKind
bare_dim_part (d.DefType name type) = d.DefType (bare_name name) (bare_part bare_type type)
bare_dim_part (d.LabelType type) = d.LabelType (bare_part bare_type type)
bare_dim_part (d.AttrsType type) = d.AttrsType (bare_part bare_type type)
bare_dim_part (d.EntryType type) = d.EntryType (bare_part bare_type type)
bare_dim_part (d.Output name) = d.Output (bare_name name)
bare_dim_part (d.UseOutput name) = d.UseOutput (bare_name name)
bare_dim_part (d.UsePrinciple name dims args) = d.UsePrinciple (bare_name name) (map (bare_pair bare_name) dims) (bare_option bare_terms args)

abbrev pub bare_class_param : ClassParam → ClassParam
bare_class_param param = record { name = bare_name param.name; preset = bare_option (bare_part bare_term) param.preset }

unfoldable pub bare_statement : StatementKind → StatementKind
bare_statement (s.UseDim name) = s.UseDim (bare_name name)
bare_statement (s.DefDim name parts) = s.DefDim (bare_name name) (map (bare_part bare_dim_part) parts)
bare_statement (s.DefClass name params body) = s.DefClass (bare_name name) (map bare_class_param params) (bare_part bare_expr body)
bare_statement (s.DefEntry body) = s.DefEntry (bare_part bare_expr body)

-- a grammar without its places
abbrev pub bare_statements : List (Spanned StatementKind) → List (Spanned StatementKind)
bare_statements statements = map (bare_part bare_statement) statements

unfoldable pub bare_grammar : Grammar → Grammar
bare_grammar grammar = record { statements = bare_statements grammar.statements; span = nowhere }

-- two grammars differ at most in their places
abbrev pub Same : Grammar → Grammar → Type 0
Same one other = bare_grammar one ≡ bare_grammar other

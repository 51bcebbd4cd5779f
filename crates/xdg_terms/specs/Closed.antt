-- A term with its parameters replaced by what they are bound to.
use Rattle.std.specs.Prelude.{map}
use Rattle.xdg_base.specs.declared.places.Span.{Span}
use Rattle.xdg_ast.specs.declared.names.Spanned.{Spanned}
use Rattle.xdg_ast.specs.declared.terms.TermKind.{TermKind, out-TermKind}
use Rattle.xdg_ast.specs.declared.terms.TermKind.TheVariants as k
use Rattle.xdg_ast.specs.declared.terms.ElemKind.{ElemKind, out-ElemKind}
use Rattle.xdg_ast.specs.declared.terms.ElemKind.TheVariants as e
use Rattle.xdg_ast.specs.declared.terms.ElemKind.TheOpen.{TermKind-F, ElemKind-F}
use Rattle.xdg_ast.specs.declared.terms.ElemKind.TheFolds.{fold-TermKind, fold-ElemKind}
use Rattle.xdg_terms.specs.Forms.{Term, Bindings, bound_to, bound_or}

-- a term, once its place is known
abbrev pub Placed : Type 0
Placed = Span → Term

abbrev pub close_step : Bindings → TermKind-F ElemKind Placed → Placed
close_step bs (TermKind-F.TermKind::Const name) span = record { kind = k.Const name; span = span }
close_step bs (TermKind-F.Param name) span = bound_or (record { kind = k.Param name; span = span }) (bound_to bs name.text)
close_step bs (TermKind-F.Number n) span = record { kind = k.Number n; span = span }
close_step bs (TermKind-F.Card card) span = record { kind = k.Card card; span = span }
close_step bs (TermKind-F.Braces elems) span = record { kind = k.Braces elems; span = span }
close_step bs (TermKind-F.TermKind::Tuple names) span = record { kind = k.Tuple names; span = span }
close_step bs (TermKind-F.Gen written) span = record { kind = k.Gen written; span = span }

abbrev pub close_elem_step : ElemKind-F ElemKind Placed → ElemKind
close_elem_step (ElemKind-F.Count name card) = e.Count name card
close_elem_step (ElemKind-F.Keyed name t) = e.Keyed name (t.kind t.span)
close_elem_step (ElemKind-F.ElemKind::Const name) = e.Const name
close_elem_step (ElemKind-F.ElemKind::Tuple names) = e.Tuple names

-- The term in which what each bound parameter is bound to stands for it, with its own places; all else stays as it is.
abbrev pub closed : Bindings → Term → Term
closed bs t = fold-TermKind ElemKind Placed close_elem_step (close_step bs) t.kind t.span

abbrev pub closed_kind : Bindings → ElemKind → ElemKind
closed_kind bs kind = fold-ElemKind ElemKind Placed close_elem_step (close_step bs) kind

-- ---- the same by the layer of the term

abbrev pub kind_by : Bindings → ElemKind → ElemKind-F ElemKind TermKind → ElemKind
kind_by bs kind (ElemKind-F.Keyed name t) = e.Keyed name (closed bs t)
kind_by bs kind _ = kind

unfoldable pub closing_kind : Bindings → ElemKind → ElemKind
closing_kind bs kind = kind_by bs kind (out-ElemKind kind)

abbrev pub closing_elem : Bindings → Spanned ElemKind → Spanned ElemKind
closing_elem bs elem = record { kind = closing_kind bs elem.kind; span = elem.span }

abbrev pub closed_by : Bindings → Term → TermKind-F ElemKind TermKind → Term
closed_by bs t (TermKind-F.Param name) = bound_or t (bound_to bs name.text)
closed_by bs t (TermKind-F.Braces elems) = record { kind = k.Braces (map (closing_elem bs) elems); span = t.span }
closed_by bs t _ = t

unfoldable pub closing : Bindings → Term → Term
closing bs t = closed_by bs t (out-TermKind t.kind)

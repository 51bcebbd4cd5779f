-- A term with its parameters replaced, by its layer.
use Rattle.std.proofs.Common.{◌≡◌, List, [], ◌∷◌, map, refl, sym, ap, ap₂, ◌∙◌}
use Rattle.xdg_ast.specs.declared.names.Spanned.{Spanned}
use Rattle.xdg_ast.specs.declared.terms.TermKind.{TermKind, out-TermKind, roll-TermKind, roll-out-TermKind, map-TermKind, fold_out-TermKind}
use Rattle.xdg_ast.specs.declared.terms.TermKind.TheVariants as k
use Rattle.xdg_ast.specs.declared.terms.ElemKind.{ElemKind, out-ElemKind, roll-ElemKind, roll-out-ElemKind, map-ElemKind, fold_out-ElemKind}
use Rattle.xdg_ast.specs.declared.terms.ElemKind.TheVariants as e
use Rattle.xdg_ast.specs.declared.terms.ElemKind.TheOpen.{TermKind-F, ElemKind-F}
use Rattle.xdg_ast.specs.declared.terms.ElemKind.TheFolds.{fold-TermKind}
use Rattle.xdg_terms.specs.Forms.{Term, Bindings, bound_to, bound_or}
use Rattle.xdg_terms.specs.Closed.{Placed, close_step, close_elem_step, closed, closed_kind, kind_by, closing_kind, closing_elem, closed_by, closing}

module _ (bs : Bindings) where
  abbrev closed_term : TermKind → Placed
  closed_term = fold-TermKind ElemKind Placed close_elem_step (close_step bs)

  -- ---- elements

  kind_layer : (kind : ElemKind) (l : ElemKind-F ElemKind TermKind) → out-ElemKind kind ≡ l → close_elem_step (map-ElemKind ElemKind TermKind ElemKind Placed (closed_kind bs) closed_term l) ≡ kind_by bs kind l
  kind_layer kind (ElemKind-F.Count name card) is = sym (e.rolls-Count name card) ∙ ap roll-ElemKind (sym is) ∙ roll-out-ElemKind kind
  kind_layer kind (ElemKind-F.Keyed name t) is = refl
  kind_layer kind (ElemKind-F.ElemKind::Const name) is = sym (e.rolls-Const name) ∙ ap roll-ElemKind (sym is) ∙ roll-out-ElemKind kind
  kind_layer kind (ElemKind-F.ElemKind::Tuple names) is = sym (e.rolls-Tuple names) ∙ ap roll-ElemKind (sym is) ∙ roll-out-ElemKind kind

  pub kind_is : (kind : ElemKind) → closed_kind bs kind ≡ closing_kind bs kind
  unfolding closing_kind
  kind_is kind = fold_out-ElemKind ElemKind Placed close_elem_step (close_step bs) kind ∙ kind_layer kind (out-ElemKind kind) refl

  elem_is : (elem : Spanned ElemKind) → record { kind = closed_kind bs elem.kind; span = elem.span } ≡ closing_elem bs elem
  elem_is elem = ap (λ (z : ElemKind). record { kind = z; span = elem.span }) (kind_is elem.kind)

  elems_are : (elems : List (Spanned ElemKind)) → map (λ (elem : Spanned ElemKind). record { kind = closed_kind bs elem.kind; span = elem.span }) elems ≡ map (closing_elem bs) elems
  elems_are [] = refl
  elems_are (elem ∷ elems) = ap₂ (λ (x : Spanned ElemKind) (xs : List (Spanned ElemKind)). x ∷ xs) (elem_is elem) (elems_are elems)

  -- ---- terms

  as_term : (t : Term) (kind : TermKind) → kind ≡ t.kind → record { kind = kind; span = t.span } ≡ t
  as_term t kind is = ap (λ (z : TermKind). record { kind = z; span = t.span }) is

  term_layer : (t : Term) (l : TermKind-F ElemKind TermKind) → out-TermKind t.kind ≡ l → close_step bs (map-TermKind ElemKind TermKind ElemKind Placed (closed_kind bs) closed_term l) t.span ≡ closed_by bs t l
  term_layer t (TermKind-F.TermKind::Const name) is = as_term t (k.Const name) (sym (k.rolls-Const name) ∙ ap roll-TermKind (sym is) ∙ roll-out-TermKind t.kind)
  term_layer t (TermKind-F.Param name) is = ap (λ (z : Term). bound_or z (bound_to bs name.text)) (as_term t (k.Param name) (sym (k.rolls-Param name) ∙ ap roll-TermKind (sym is) ∙ roll-out-TermKind t.kind))
  term_layer t (TermKind-F.Number n) is = as_term t (k.Number n) (sym (k.rolls-Number n) ∙ ap roll-TermKind (sym is) ∙ roll-out-TermKind t.kind)
  term_layer t (TermKind-F.Card card) is = as_term t (k.Card card) (sym (k.rolls-Card card) ∙ ap roll-TermKind (sym is) ∙ roll-out-TermKind t.kind)
  term_layer t (TermKind-F.Braces elems) is = ap (λ (xs : List (Spanned ElemKind)). record { kind = k.Braces xs; span = t.span }) (elems_are elems)
  term_layer t (TermKind-F.TermKind::Tuple names) is = as_term t (k.Tuple names) (sym (k.rolls-Tuple names) ∙ ap roll-TermKind (sym is) ∙ roll-out-TermKind t.kind)
  term_layer t (TermKind-F.Gen written) is = as_term t (k.Gen written) (sym (k.rolls-Gen written) ∙ ap roll-TermKind (sym is) ∙ roll-out-TermKind t.kind)

  pub closed_is : (t : Term) → closed bs t ≡ closing bs t
  unfolding closing
  closed_is t = ap (λ (g : Placed). g t.span) (fold_out-TermKind ElemKind Placed close_elem_step (close_step bs) t.kind) ∙ term_layer t (out-TermKind t.kind) refl

pub closing_is : (bs : Bindings) (t : Term) → closing bs t ≡ closed bs t
closing_is bs t = sym (closed_is bs t)

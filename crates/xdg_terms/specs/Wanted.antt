-- The open parameters that stand in a term, each with the type that is wanted there.
use Rattle.std.specs.Prelude.{ℕ, List, [], ◌∷◌, map, flat_map, Option, Some, None, if◌then◌else◌, bytes_eq}
use Rattle.xdg_base.specs.Texts.{has_text}
use Rattle.xdg_ast.specs.declared.names.Name.{Name}
use Rattle.xdg_ast.specs.declared.names.Spanned.{Spanned}
use Rattle.xdg_ast.specs.declared.terms.TermKind.{TermKind, out-TermKind}
use Rattle.xdg_ast.specs.declared.terms.ElemKind.{ElemKind, out-ElemKind}
use Rattle.xdg_ast.specs.declared.terms.ElemKind.TheOpen.{TermKind-F, ElemKind-F}
use Rattle.xdg_domain.specs.Shapes.{Shape, mapping, fields, Fields, no_field, field_then, shape}
use Rattle.xdg_terms.specs.declared.wants.Wanted.{Wanted}
use Rattle.xdg_terms.specs.Forms.{Term, pairs_of}
use Rattle.xdg_terms.specs.Offences.{all_told}

-- a parameter, and a type that is wanted of it
abbrev pub Want : Type 0
Want = List ℕ × Shape

-- what is lent, as the names and the shapes
abbrev pub wants_of : List Wanted → List Want
wants_of found = map (λ one. (one.name.now.text, shape one.ty.now)) found

abbrev pub free_in : List (List ℕ) → TermKind-F ElemKind TermKind → Option Name
free_in free (TermKind-F.Param name) = if has_text free name.text then Some name else None
free_in free _ = None

-- the open parameter that the term is, if it is one
unfoldable pub free_of : List (List ℕ) → Term → Option Name
free_of free t = free_in free (out-TermKind t.kind)

-- a parameter that stands where the type is wanted, or else these
abbrev pub or_inside : Option Name → Shape → List Want → List Want
or_inside None s inside = inside
or_inside (Some name) s inside = (name.text, s) ∷ []

-- A parameter that stands for the whole term is wanted as what the term is. In braces each stands for the value behind
-- a key: of a map it is wanted as a value of the map, of a record as the field is that has the key, if one has.
abbrev mutual
  pub params_in : List (List ℕ) → Shape → Term → List Want
  params_in free (mapping k u) t = or_inside (free_of free t) (mapping k u) (flat_map (λ pair. params_in free u pair.1) (all_told (pairs_of t)))
  params_in free (fields fs) t = or_inside (free_of free t) (fields fs) (flat_map (λ pair. params_under free fs pair) (all_told (pairs_of t)))
  params_in free s t = or_inside (free_of free t) s []

  pub params_under : List (List ℕ) → Fields → Name × Term → List Want
  params_under free no_field pair = []
  params_under free (field_then name u fs) pair = if bytes_eq name pair.0.text then params_in free u pair.1 else params_under free fs pair

-- those inside a term
abbrev pub params_inside : List (List ℕ) → Shape → Term → List Want
params_inside free (mapping k u) t = flat_map (λ pair. params_in free u pair.1) (all_told (pairs_of t))
params_inside free (fields fs) t = flat_map (λ pair. params_under free fs pair) (all_told (pairs_of t))
params_inside free s t = []

-- ---- the same of elements in braces

abbrev pub value_params_in : List (List ℕ) → Shape → ElemKind-F ElemKind TermKind → List Want
value_params_in free s (ElemKind-F.Keyed name t) = params_in free s t
value_params_in free s _ = []

-- in the term of a key
unfoldable pub value_params : List (List ℕ) → Shape → Spanned ElemKind → List Want
value_params free s elem = value_params_in free s (out-ElemKind elem.kind)

abbrev pub part_params_in : List (List ℕ) → Fields → ElemKind-F ElemKind TermKind → List Want
part_params_in free fs (ElemKind-F.Keyed name t) = params_under free fs (name, t)
part_params_in free fs _ = []

-- in the term of a field
unfoldable pub part_params : List (List ℕ) → Fields → Spanned ElemKind → List Want
part_params free fs elem = part_params_in free fs (out-ElemKind elem.kind)

-- The parameters inside a term, told of its elements one by one.
use Rattle.std.proofs.Common.{◌≡◌, ℕ, ◌+◌, ◌<◌, Bool, true, false, List, [], length, drop, get_or, Some, sym, ap, ◌∙◌}
use Rattle.std.specs.Prelude.{if◌then◌else◌, bytes_eq}
use Rattle.std.specs.List.{flat_map}
use Rattle.xdg_ast.specs.declared.names.Name.{Name}
use Rattle.xdg_ast.specs.declared.names.Spanned.{Spanned}
use Rattle.xdg_ast.specs.declared.terms.TermKind.TheVariants as k
use Rattle.xdg_ast.specs.declared.terms.ElemKind.{ElemKind, out-ElemKind}
use Rattle.xdg_domain.specs.declared.types.Ty.{Ty}
use Rattle.xdg_domain.specs.Shapes.{Shape, mapping, fields, Fields, shape}
use Rattle.xdg_terms.specs.Forms.{Term, keyed_elem, all_of, braces_in, pairs_of}
use Rattle.xdg_terms.specs.Offences.{is_some, all_told}
use Rattle.xdg_terms.specs.Faults.{fields_in}
use Rattle.xdg_terms.specs.Wanted.{Want, params_in, params_under, params_inside, value_params_in, value_params, part_params_in, part_params}
use Rattle.xdg_terms.proofs.Read.{keyed_is}
use Rattle.xdg_terms.proofs.Formed.{told_as, there_is_none, out_braces}
use Rattle.xdg_terms.proofs.Right.{told}
use Rattle.xdg_facts.proofs.Lists.{from_place}

pairs_are : (t : Term) (es : List (Spanned ElemKind)) → t.kind ≡ k.Braces es → pairs_of t ≡ all_of keyed_elem es
unfolding pairs_of
pairs_are t es is = ap (braces_in keyed_elem) (out_braces t es is)

-- all elements are keys with terms
pub all_keyed : (t : Term) (es : List (Spanned ElemKind)) → t.kind ≡ k.Braces es → true ≡ is_some (all_of keyed_elem es) → all_of keyed_elem es ≡ Some (all_told (pairs_of t))
all_keyed t es is h = let one = told (all_of keyed_elem es) (sym h) in one.1 ∙ ap Some (sym (ap all_told (pairs_are t es is ∙ one.1)))

pub not_keyed : (t : Term) (es : List (Spanned ElemKind)) → t.kind ≡ k.Braces es → false ≡ is_some (all_of keyed_elem es) → all_of keyed_elem [] ≡ Some (all_told (pairs_of t))
unfolding all_of
not_keyed t es is h = ap Some (sym (ap all_told (pairs_are t es is ∙ there_is_none (all_of keyed_elem es) h)))

pub inside_map : (free : List (List ℕ)) (s key u : Shape) (t : Term) (es : List (Spanned ElemKind)) → s ≡ mapping key u → all_of keyed_elem es ≡ Some (all_told (pairs_of t)) → flat_map (value_params free u) es ≡ params_inside free s t
unfolding keyed_elem value_params
inside_map free s key u t es is all =
    told_as keyed_elem (λ pair. params_in free u pair.1) (value_params free u) (λ e x h. ap (value_params_in free u) (keyed_is (out-ElemKind e.kind) x h)) es (all_told (pairs_of t)) all ∙ sym (ap (λ (z : Shape). params_inside free z t) is)

pub inside_record : (free : List (List ℕ)) (s : Shape) (fs : Fields) (t : Term) (es : List (Spanned ElemKind)) → s ≡ fields fs → all_of keyed_elem es ≡ Some (all_told (pairs_of t)) → flat_map (part_params free fs) es ≡ params_inside free s t
unfolding keyed_elem part_params
inside_record free s fs t es is all =
    told_as keyed_elem (params_under free fs) (part_params free fs) (λ e x h. ap (part_params_in free fs) (keyed_is (out-ElemKind e.kind) x h)) es (all_told (pairs_of t)) all ∙ sym (ap (λ (z : Shape). params_inside free z t) is)

-- the field of that name
pub under_here : (free : List (List ℕ)) (all : List (List ℕ × Ty)) (i : ℕ) (field : List ℕ × Ty) (key : Name) (t : Term) (total : List Want) → i < length all → field ≡ get_or all i field → true ≡ bytes_eq field.0 key.text
    → params_under free (fields_in (drop i all)) (key, t) ≡ total → params_in free (shape field.1) t ≡ total
under_here free all i field key t total within is same so_far =
    ap (λ (b : Bool). if b then params_in free (shape field.1) t else params_under free (fields_in (drop (i + 1) all)) (key, t)) same ∙ sym (ap (λ fs. params_under free (fields_in fs) (key, t)) (from_place all i field within is)) ∙ so_far

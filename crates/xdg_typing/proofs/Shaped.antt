-- The shapes of types, form by form.
use Rattle.std.proofs.Common.{◌≡◌, ℕ, List, [], ◌∷◌, map, ap, sym, ◌∙◌, refl, Bool}
use Rattle.std.specs.Prelude.{IsTrue, ◌↔◌}
use Rattle.xdg_ast.specs.declared.names.Pair.{Pair}
use Rattle.xdg_ast.specs.declared.types.TypeKind.{TypeKind}
use Rattle.xdg_ast.specs.declared.types.TypeKind.TheVariants as y
use Rattle.xdg_domain.specs.declared.types.Ty.{Ty}
use Rattle.xdg_domain.specs.declared.types.Ty.TheOpen.{Ty-F}
use Rattle.xdg_domain.specs.declared.types.Ty.TheVariants as t
use Rattle.xdg_domain.specs.Shapes.{Shape, tuple, text, fields, no_field, field_then, shape_then, shape, shapes_of, fields_of}
use Rattle.xdg_types.specs.Written.{tree}
use Rattle.xdg_types.specs.Parts.{TypeTerm}
use Rattle.xdg_types.specs.Meaning.{meaning, domains_meaning, fields_meaning}
use Rattle.xdg_types.specs.Table.{typed}
use Rattle.xdg_typing.specs.Branches.{domain_meaning, field_meaning}
use Rattle.xdg_types.proofs.Treed.{trees, members, tree_tuple, tree_rec}
use Rattle.xdg_domain.proofs.Shaped.{by_layer}

shape_tuple : (all : List Ty) → shape (t.Tuple all) ≡ tuple (shapes_of (map shape all))
shape_tuple all = by_layer (t.Tuple all) (Ty-F.Tuple all) (t.outs-Tuple all)

shape_rec : (all : List (List ℕ × Ty)) → shape (t.Rec all) ≡ fields (fields_of (typed all))
shape_rec all = by_layer (t.Rec all) (Ty-F.Rec all) (t.outs-Rec all)

-- a record, and whether it has fields
pub rec_is_empty : (ty : Ty) (all : List (List ℕ × Ty)) (b : Bool) → ty ≡ t.Rec all → (IsTrue b ↔ (all ≡ [])) → IsTrue b ↔ (shape ty ≡ fields no_field)
rec_is_empty ty all b is told = (
  λ h. ap shape is ∙ shape_rec all ∙ ap (λ fs. fields (fields_of (typed fs))) (told.0 h),
  λ h. told.1 (none all (sym (shape_rec all) ∙ sym (ap shape is) ∙ h)),
) where
  none : (fs : List (List ℕ × Ty)) → fields (fields_of (typed fs)) ≡ fields no_field → fs ≡ []
  none [] h = refl
  none (f ∷ fs) h = absurd cc

-- ---- the forms

module _ (names : List ℕ → Shape) where
  domains_are : (ts : List TypeTerm) → shapes_of (map (domain_meaning names) ts) ≡ domains_meaning names (trees ts)
  domains_are [] = refl
  domains_are (t ∷ ts) = ap (shape_then (domain_meaning names t)) (domains_are ts)

  fields_are : (ps : List (Pair TypeTerm)) → fields_of (map (field_meaning names) ps) ≡ fields_meaning names (members ps)
  fields_are [] = refl
  fields_are (p ∷ ps) = ap (field_then p.key.text (meaning names (tree p.value.kind))) (fields_are ps)

  pub made_tuple : (kind : TypeKind) (types written : List TypeTerm) (made : List Ty) → kind ≡ y.Tuple types → written ≡ types → map shape made ≡ map (domain_meaning names) written → shape (t.Tuple made) ≡ meaning names (tree kind)
  made_tuple kind types written made is same h = shape_tuple made ∙ ap (λ ss. tuple (shapes_of ss)) h ∙ ap (λ ts. tuple (shapes_of (map (domain_meaning names) ts))) same ∙ ap tuple (domains_are types) ∙ sym (ap (meaning names) (ap tree is ∙ tree_tuple types))

  pub made_rec : (kind : TypeKind) (all written : List (Pair TypeTerm)) (made : List (List ℕ × Ty)) → kind ≡ y.Rec all → written ≡ all → typed made ≡ map (field_meaning names) written → shape (t.Rec made) ≡ meaning names (tree kind)
  made_rec kind all written made is same h = shape_rec made ∙ ap (λ fs. fields (fields_of fs)) h ∙ ap (λ ps. fields (fields_of (map (field_meaning names) ps))) same ∙ ap fields (fields_are all) ∙ sym (ap (meaning names) (ap tree is ∙ tree_rec all))

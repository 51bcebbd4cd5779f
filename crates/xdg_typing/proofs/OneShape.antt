-- Types of one shape are one type.
use Rattle.std.proofs.Common.{◌≡◌, ℕ, List, [], ◌∷◌, map, refl, sym, ap, ap₂, ◌∙◌, subst}
use Rattle.xdg_domain.specs.declared.types.Ty.{Ty, roll-Ty, map-Ty}
use Rattle.xdg_domain.specs.declared.types.Ty.TheOpen.{Ty-F}
use Rattle.xdg_domain.specs.declared.types.Ty.TheFolds.{ind-Ty, fold-roll-Ty}
use Rattle.xdg_domain.specs.Shapes.{Shape, domain, tuple, truth, integer, text, set, iset, card, valency, mapping, fields, Shapes, no_shape, shape_then, Fields, no_field, field_then, shapes_of, fields_of, layer, shape}
use Rattle.xdg_types.specs.Table.{Typed, typed}
use Rattle.xdg_domain.specs.Sized.{shape_of_field}

-- the type of that shape
abbrev mutual
  pub of_shape : Shape → Ty
  of_shape (domain constants) = roll-Ty (Ty-F.Domain constants)
  of_shape (tuple ss) = roll-Ty (Ty-F.Tuple (of_shapes ss))
  of_shape truth = roll-Ty Ty-F.Bool
  of_shape integer = roll-Ty Ty-F.Int
  of_shape text = roll-Ty Ty-F.Str
  of_shape (set s) = roll-Ty (Ty-F.Set (of_shape s))
  of_shape (iset s) = roll-Ty (Ty-F.ISet (of_shape s))
  of_shape card = roll-Ty Ty-F.Card
  of_shape (valency k) = roll-Ty (Ty-F.Valency (of_shape k))
  of_shape (mapping k u) = roll-Ty (Ty-F.Map (of_shape k) (of_shape u))
  of_shape (fields fs) = roll-Ty (Ty-F.Rec (of_fields fs))

  pub of_shapes : Shapes → List Ty
  of_shapes no_shape = []
  of_shapes (shape_then s ss) = of_shape s ∷ of_shapes ss

  pub of_fields : Fields → List (List ℕ × Ty)
  of_fields no_field = []
  of_fields (field_then name u fs) = (name, of_shape u) ∷ of_fields fs

-- a type that its shape tells
abbrev Told : Type 0
Told = (t : Ty) × (of_shape (shape t) ≡ t)

abbrev forget : Ty-F Told → Ty-F Ty
forget z = map-Ty Told Ty (λ k. k.0) z

types_told : (ks : List Told) → of_shapes (shapes_of (map shape (map (λ (k : Told). k.0) ks))) ≡ map (λ (k : Told). k.0) ks
types_told [] = refl
types_told (k ∷ ks) = ap₂ (λ t ts. t ∷ ts) k.1 (types_told ks)

abbrev field : List ℕ × Told → List ℕ × Ty
field f = (f.0, f.1.0)

fields_told : (fs : List (List ℕ × Told)) → of_fields (fields_of (map shape_of_field (map field fs))) ≡ map field fs
fields_told [] = refl
fields_told (f ∷ fs) = ap₂ (λ t ts. (f.0, t) ∷ ts) f.1.1 (fields_told fs)

layer_told : (z : Ty-F Told) → of_shape (layer (map-Ty Ty Shape shape (forget z))) ≡ roll-Ty (forget z)
layer_told (Ty-F.Tuple types) = ap (λ ts. roll-Ty (Ty-F.Tuple ts)) (types_told types)
layer_told (Ty-F.Set type) = ap (λ t. roll-Ty (Ty-F.Set t)) type.1
layer_told (Ty-F.ISet type) = ap (λ t. roll-Ty (Ty-F.ISet t)) type.1
layer_told (Ty-F.Valency key) = ap (λ t. roll-Ty (Ty-F.Valency t)) key.1
layer_told (Ty-F.Map key value) = ap₂ (λ t u. roll-Ty (Ty-F.Map t u)) key.1 value.1
layer_told (Ty-F.Rec all) = ap (λ fs. roll-Ty (Ty-F.Rec fs)) (fields_told all)
layer_told other = refl

rolled_told : (z : Ty-F Told) → of_shape (shape (roll-Ty (forget z))) ≡ roll-Ty (forget z)
rolled_told z = ap of_shape (fold-roll-Ty Shape layer (forget z)) ∙ layer_told z

-- each type is told by its shape
pub type_told : (t : Ty) → of_shape (shape t) ≡ t
type_told = ind-Ty (λ t. of_shape (shape t) ≡ t) (λ x z is. subst (λ l. of_shape (shape (roll-Ty l)) ≡ roll-Ty l) is (rolled_told z))

-- ---- names with types

of_typed : Typed → List (List ℕ × Ty)
of_typed all = map (λ one. (one.0, of_shape one.1)) all

typed_told : (all : List (List ℕ × Ty)) → of_typed (typed all) ≡ all
unfolding of_typed
typed_told [] = refl
typed_told (one ∷ all) = ap₂ (λ t ts. (one.0, t) ∷ ts) (type_told one.1) (typed_told all)

pub one_typed : (all others : List (List ℕ × Ty)) → typed all ≡ typed others → all ≡ others
one_typed all others same = sym (typed_told all) ∙ ap of_typed same ∙ typed_told others

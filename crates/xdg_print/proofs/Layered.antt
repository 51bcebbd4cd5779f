-- The trees of types, variant by variant, and what stands in values of them.
use Rattle.std.proofs.Common.{◌≡◌, ℕ, zero, suc, ◌<◌, List, [], ◌∷◌, length, get_or, map, sym, ap, ◌∙◌, subst, arith}
use Rattle.xdg_domain.specs.Cards.{IsCards}
use Rattle.xdg_domain.specs.Shapes.{Shape, tuple, valency, mapping, fields, fields_of, shape, shapes_of, count, constants, constants_of, IsDomain, IsMapped, IsType, AreTypes}
use Rattle.xdg_domain.specs.Sized.{sizes_of}
use Rattle.xdg_domain.specs.Tuples.{InRange}
use Rattle.xdg_domain.specs.Values.{AllBelow, EachSaid, IsIn, IsValue, IsFieldOf}
use Rattle.xdg_domain.specs.declared.types.Ty.{Ty}
use Rattle.xdg_domain.specs.declared.types.Ty.TheOpen.{Ty-F}
use Rattle.xdg_domain.specs.declared.types.Ty.TheVariants as t
use Rattle.xdg_domain.specs.declared.values.Value.{Value, out-Value}
use Rattle.xdg_domain.specs.declared.values.Value.TheOpen.{Value-F}
use Rattle.xdg_domain.specs.declared.values.Value.TheVariants as v
use Rattle.xdg_types.specs.Table.{typed}
use Rattle.xdg_domain.proofs.Shaped.{by_layer}
use Rattle.xdg_facts.proofs.Lists.{any_default}
use Rattle.xdg_facts.proofs.Each.{at_place}

-- ---- types

pub of_tuple : (ty : Ty) (types : List Ty) → ty ≡ t.Tuple types → shape ty ≡ tuple (shapes_of (map shape types))
of_tuple ty types is = ap shape is ∙ by_layer (t.Tuple types) (Ty-F.Tuple types) (t.outs-Tuple types)

pub of_valency : (ty key : Ty) → ty ≡ t.Valency key → shape ty ≡ valency (shape key)
of_valency ty key is = ap shape is ∙ by_layer (t.Valency key) (Ty-F.Valency key) (t.outs-Valency key)

pub of_map : (ty key of : Ty) → ty ≡ t.Map key of → shape ty ≡ mapping (shape key) (shape of)
of_map ty key of is = ap shape is ∙ by_layer (t.Map key of) (Ty-F.Map key of) (t.outs-Map key of)

pub of_record : (ty : Ty) (types : List (List ℕ × Ty)) → ty ≡ t.Rec types → shape ty ≡ fields (fields_of (typed types))
of_record ty types is = ap shape is ∙ by_layer (t.Rec types) (Ty-F.Rec types) (t.outs-Rec types)

-- ---- values

-- a value of a type is one of its layer
pub in_layer : (s s' : Shape) (x : Value) (l : Value-F Value) → s ≡ s' → out-Value x ≡ l → IsValue s x → IsIn s' l
in_layer s s' x l same is h = subst (IsIn s') is (subst (λ r. IsIn r (out-Value x)) same h)

pub below_at : (bound : ℕ) (ns : List ℕ) (i : ℕ) → AllBelow bound ns → i < length ns → get_or ns i 0 < bound
below_at bound ns i h within = at_place (AllBelow bound) (λ n. n < bound) (λ _ _ h. h) ns i (get_or ns i 0) h within (any_default ns i 0 (get_or ns i 0) within)

pub said_each : {V : Type 0} (P : ℕ → V → Type 0) (m : List (ℕ × V)) (i : ℕ) (entry : ℕ × V) → EachSaid P m → i < length m → entry ≡ get_or m i entry → P entry.0 entry.1
said_each P = at_place (EachSaid P) (λ x. P x.0 x.1) (λ _ _ h. h)

pub valency_said : (ty key : Ty) (value : Value) (said items : List (ℕ × List ℕ)) → ty ≡ t.Valency key → value ≡ v.Valency said → IsValue (shape ty) value → items ≡ said → EachSaid (λ n ns. (n < count (shape key)) × IsCards ns) items
valency_said ty key value said items is value_is h same =
    subst (EachSaid (λ (n : ℕ) (ns : List ℕ). (n < count (shape key)) × IsCards ns)) (sym same) (in_layer (shape ty) (valency (shape key)) value (Value-F.Valency said) (of_valency ty key is) (ap out-Value value_is ∙ v.outs-Valency said) h).1

pub map_types : (ty key of : Ty) → ty ≡ t.Map key of → IsType (shape ty) → IsDomain (shape key) × (IsMapped (shape of) × IsType (shape of))
map_types ty key of is h = subst IsType (of_map ty key of is) h

-- an entry of a map has a key and a value of the types
pub map_entry : (ty key of : Ty) (value : Value) (said items : List (ℕ × Value)) (i : ℕ) (entry : ℕ × Value) → ty ≡ t.Map key of → value ≡ v.Map said → IsValue (shape ty) value → items ≡ said → i < length items → entry ≡ get_or items i entry → (entry.0 < count (shape key)) × IsValue (shape of) entry.1
map_entry ty key of value said items i entry is value_is h same within at =
    let P : ℕ → Value → Type 0 = λ n x. (n < count (shape key)) × IsValue (shape of) x in
    said_each P items i entry (subst (EachSaid P) (sym same) (in_layer (shape ty) (mapping (shape key) (shape of)) value (Value-F.Map said) (of_map ty key of is) (ap out-Value value_is ∙ v.outs-Map said) h).1) within at

pub record_types : (ty : Ty) (types given : List (List ℕ × Ty)) → ty ≡ t.Rec types → given ≡ types → IsType (shape ty) → AreTypes (fields_of (typed given))
record_types ty types given is same h = subst (λ ts. AreTypes (fields_of (typed ts))) (sym same) (subst IsType (of_record ty types is) h).1

-- what a record says is of its fields
pub record_said : (ty : Ty) (types given : List (List ℕ × Ty)) (value : Value) (said items : List (ℕ × Value)) → ty ≡ t.Rec types → given ≡ types → value ≡ v.Rec said
    → IsValue (shape ty) value → items ≡ said → EachSaid (IsFieldOf (fields_of (typed given))) items
record_said ty types given value said items is given_is value_is h same =
    subst (λ ts. EachSaid (IsFieldOf (fields_of (typed ts))) items) (sym given_is)
    (subst (EachSaid (IsFieldOf (fields_of (typed types)))) (sym same) (in_layer (shape ty) (fields (fields_of (typed types))) value (Value-F.Rec said) (of_record ty types is) (ap out-Value value_is ∙ v.outs-Rec said) h).1)

-- ---- tuples

abbrev pub names_of : List Ty → List (List (List ℕ))
names_of types = constants_of (shapes_of (map shape types))

-- the number at a field is one of its constants'
pub field_within : (types : List Ty) (ns : List ℕ) (i : ℕ) (ty : Ty) → InRange (sizes_of types) ns → i < length types → ty ≡ get_or types i ty → (i < length ns) × (get_or ns i 0 < length (constants (shape ty)))
field_within [] ns i ty h within is = absurd (omega (arith, within))
field_within (t ∷ types) [] i ty h within is = absurd h
field_within (t ∷ types) (n ∷ ns) zero ty h within is = (omega arith, subst (λ z. n < length (constants (shape z))) (sym is) h.0)
field_within (t ∷ types) (n ∷ ns) (suc i) ty h within is =
    let later = field_within types ns i ty h.1 (omega (arith, within)) is in (omega (arith, later.0), later.1)

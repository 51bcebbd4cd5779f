-- Types and values opened by one layer, where a join goes on inside them.
use Rattle.std.proofs.Common.{◌≡◌, ℕ, zero, suc, ◌<◌, ◌≤◌, List, [], ◌∷◌, length, get_or, map, refl, ap, ap₂, sym, ◌∙◌, arith}
use Rattle.std.specs.Prelude.{Option, None, Result, Ok, Err, IfOk}
use Rattle.xdg_domain.specs.Shapes.{Shape, shape, layer, mapping, fields, field_then, fields_of}
use Rattle.xdg_domain.specs.Joined.{merged, of_map, of_record, joined_in, joined_field, joined, fields_in}
use Rattle.xdg_domain.specs.declared.types.Ty.{Ty, map-Ty, fold_out-Ty}
use Rattle.xdg_domain.specs.declared.types.Ty.TheVariants as t
use Rattle.xdg_domain.specs.declared.values.Value.{Value, out-Value}
use Rattle.xdg_domain.specs.declared.values.Value.TheVariants as v
use Rattle.xdg_domain.specs.declared.values.Value.TheOpen.{Value-F}

pub shape_map : (key of : Ty) → shape (t.Map key of) ≡ mapping (shape key) (shape of)
shape_map key of = fold_out-Ty Shape layer (t.Map key of) ∙ ap (λ l. layer (map-Ty Ty Shape shape l)) (t.outs-Map key of)

fields_mapped : (fs : List (List ℕ × Ty)) → fields_of (map (λ f. (f.0, shape f.1)) fs) ≡ fields_in fs
fields_mapped [] = refl
fields_mapped (f ∷ fs) = ap (λ r. field_then f.0 (shape f.1) r) (fields_mapped fs)

pub shape_record : (fs : List (List ℕ × Ty)) → shape (t.Rec fs) ≡ fields (fields_in fs)
shape_record fs = fold_out-Ty Shape layer (t.Rec fs) ∙ ap (λ l. layer (map-Ty Ty Shape shape l)) (t.outs-Rec fs) ∙ ap fields (fields_mapped fs)

opened : (s s' : Shape) (x y : Value) (a b : Value-F Value) → s ≡ s' → out-Value x ≡ a → out-Value y ≡ b → joined_in s' a b ≡ joined s x y
opened s s' x y a b i j k = sym (ap (λ r. joined_in r (out-Value x) (out-Value y)) i ∙ ap₂ (λ p q. joined_in s' p q) j k)

pub map_told : (ty key of given : Ty) (x y : Value) (a b mine theirs : List (ℕ × Value)) (told : Option (List (ℕ × Value))) → ty ≡ t.Map key of → x ≡ v.Map a → y ≡ v.Map b → given ≡ of → mine ≡ a → theirs ≡ b
    → told ≡ merged (λ k. joined (shape given)) mine theirs → of_map told ≡ joined (shape ty) x y
map_told ty key of given x y a b mine theirs told i j k same l m is =
    ap of_map (is ∙ ap (λ u. merged (λ n. joined (shape u)) mine theirs) same ∙ ap₂ (λ p q. merged (λ n. joined (shape of)) p q) l m)
    ∙ opened (shape ty) (mapping (shape key) (shape of)) x y (Value-F.Map a) (Value-F.Map b) (ap shape i ∙ shape_map key of) (ap out-Value j ∙ v.outs-Map a) (ap out-Value k ∙ v.outs-Map b)

pub record_told : (ty : Ty) (fs given : List (List ℕ × Ty)) (x y : Value) (a b mine theirs : List (ℕ × Value)) (told : Option (List (ℕ × Value))) → ty ≡ t.Rec fs → x ≡ v.Rec a → y ≡ v.Rec b → given ≡ fs → mine ≡ a → theirs ≡ b
    → told ≡ merged (joined_field (fields_in given)) mine theirs → of_record told ≡ joined (shape ty) x y
record_told ty fs given x y a b mine theirs told i j k same l m is =
    ap of_record (is ∙ ap (λ u. merged (joined_field (fields_in u)) mine theirs) same ∙ ap₂ (λ p q. merged (joined_field (fields_in fs)) p q) l m)
    ∙ opened (shape ty) (fields (fields_in fs)) x y (Value-F.Rec a) (Value-F.Rec b) (ap shape i ∙ shape_record fs) (ap out-Value j ∙ v.outs-Rec a) (ap out-Value k ∙ v.outs-Rec b)

pub field_beyond : (fs : List (List ℕ × Ty)) (place : ℕ) (x y : Value) → length fs ≤ place → None ≡ joined_field (fields_in fs) place x y
field_beyond [] place x y beyond = refl
field_beyond (f ∷ fs) zero x y beyond = absurd (omega (arith, beyond))
field_beyond (f ∷ fs) (suc place) x y beyond = field_beyond fs place x y (omega (arith, beyond))

field_at : (fs : List (List ℕ × Ty)) (place : ℕ) (f : List ℕ × Ty) (x y : Value) → place < length fs → joined (shape (get_or fs place f).1) x y ≡ joined_field (fields_in fs) place x y
field_at [] place f x y within = absurd (omega (arith, within))
field_at (g ∷ fs) zero f x y within = refl
field_at (g ∷ fs) (suc place) f x y within = field_at fs place f x y (omega (arith, within))

pub field_told : {E : Type 0} (fs : List (List ℕ × Ty)) (place : ℕ) (f : List ℕ × Ty) (x y : Value) (r : Result (Option Value) E) → place < length fs → IfOk r (λ told. told ≡ joined (shape (get_or fs place f).1) x y) → IfOk r (λ told. told ≡ joined_field (fields_in fs) place x y)
field_told fs place f x y (Ok told) within h = h ∙ field_at fs place f x y within
field_told fs place f x y (Err e) within h = tt

-- The defaults of fields, one after the other.
use Rattle.std.proofs.Common.{◌≡◌, ℕ, ◌<◌, ◌+◌, List, [], ◌∷◌, ◌++◌, length, get_or, drop, map, Option, None, Some, refl, ap, sym, ◌∙◌, subst, append_assoc}
use Rattle.std.proofs.lemmas.List.{at_drop_more}
use Rattle.xdg_domain.specs.declared.types.Ty.{Ty}
use Rattle.xdg_domain.specs.declared.values.Value.{Value}
use Rattle.xdg_domain.specs.Shapes.{Fields, field_then, shape, fields_of, AreTypes, IsType}
use Rattle.xdg_domain.specs.Sized.{shape_of_field}
use Rattle.xdg_domain.specs.Joined.{behind}
use Rattle.xdg_domain.specs.Defaults.{default, defaults, field_and_defaults}

-- those of the fields, as definitions see them
abbrev pub seen : List (List ℕ × Ty) → Fields
seen fs = fields_of (map shape_of_field fs)

pub next_field : (fs : List (List ℕ × Ty)) (k : ℕ) (f : List ℕ × Ty) → k < length fs → f ≡ get_or fs k f → seen (drop k fs) ≡ field_then f.0 (shape f.1) (seen (drop (k + 1) fs))
next_field fs k f within is = at_drop_more seen fs k f within ∙ ap (λ (g : List ℕ × Ty). seen (g ∷ drop (k + 1) fs)) (sym is)

pub one_type : (fs : List (List ℕ × Ty)) (k : ℕ) (f : List ℕ × Ty) → k < length fs → f ≡ get_or fs k f → AreTypes (seen (drop k fs)) → IsType (shape f.1) × AreTypes (seen (drop (k + 1) fs))
one_type fs k f within is right = subst AreTypes (next_field fs k f within is) right

pub after_more : (made : List (ℕ × Value)) (place : ℕ) (x : Value) (rest : Option (List (ℕ × Value))) → behind (made ++ (place, x) ∷ []) rest ≡ behind made (field_and_defaults place (Some x) rest)
after_more made place x None = refl
after_more made place x (Some rest) = ap Some (append_assoc made ((place, x) ∷ []) rest)

-- one default more
pub made_more : (fs : List (List ℕ × Ty)) (k : ℕ) (f : List ℕ × Ty) (made next : List (ℕ × Value)) (x : Value) → k < length fs → f ≡ get_or fs k f → Some x ≡ default (shape f.1) → next ≡ made ++ (k, x) ∷ []
    → behind made (defaults k (seen (drop k fs))) ≡ defaults 0 (seen fs) → behind next (defaults (k + 1) (seen (drop (k + 1) fs))) ≡ defaults 0 (seen fs)
made_more fs k f made next x within is has grown before =
    let rest = defaults (k + 1) (seen (drop (k + 1) fs)) in
    ap (λ l. behind l rest) grown
    ∙ after_more made k x rest
    ∙ ap (λ o. behind made (field_and_defaults k o rest)) has
    ∙ ap (λ l. behind made (defaults k l)) (sym (next_field fs k f within is))
    ∙ before

pub none_and : (place : ℕ) (rest : Option (List (ℕ × Value))) → field_and_defaults place None rest ≡ None
none_and place None = refl
none_and place (Some rest) = refl

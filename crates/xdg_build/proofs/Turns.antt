-- The turns of loops.
use Rattle.std.proofs.Common.{◌≡◌, ℕ, ◌+◌, ◌<◌, ◌≤◌, zero, suc, List, [], ◌∷◌, ◌++◌, length, get_or, map, take, refl, sym, ap, ap₂, ◌∙◌, subst, arith, add-one}
use Rattle.std.specs.List.{range_with_len}
use Rattle.std.proofs.lemmas.List.{get_or_default, take_more, map-append}
use Rattle.std.proofs.lemmas.List.FromFn.{map-range_with_len_more}
use Rattle.xdg_domain.specs.declared.types.Ty.{Ty}
use Rattle.xdg_domain.specs.Shapes.{Shape, shape, constants, IsSmall}
use Rattle.xdg_domain.specs.Sized.{sizes_of}
use Rattle.xdg_domain.specs.Tuples.{InRange}
use Rattle.xdg_problem.specs.declared.parts.DimPlan.{DimPlan}
use Rattle.xdg_problem.specs.declared.parts.Shown.{Shown}
use Rattle.xdg_terms.specs.Built.{constants_each}
use Rattle.xdg_terms.specs.Means.{chosen}
use Rattle.xdg_types.specs.declared.table.DimType.{DimType}
use Rattle.xdg_types.specs.Table.{typed, AreAttributes, KeepDims}
use Rattle.xdg_build.specs.Grammars.{Grammar}
use Rattle.xdg_formula.specs.Tables.{no_dim}
use Rattle.xdg_types.proofs.Kept.{keeps_at}
use Rattle.xdg_build.specs.Plans.{shown_as, dim_plan, plan_at}
use Rattle.xdg_facts.proofs.Each.{at_place}

-- ---- constants of a tuple

pub number_within : (types : List Ty) (numbers : List ℕ) (i : ℕ) → InRange (sizes_of types) numbers → i < length types → i < length numbers
number_within [] numbers i range within = absurd (omega (arith, within))
number_within (t ∷ types) [] i range within = absurd range
number_within (t ∷ types) (n ∷ numbers) zero range within = omega arith
number_within (t ∷ types) (n ∷ numbers) (suc i) range within = let h : i < length numbers = number_within types numbers i range.1 (omega (arith, within)) in omega arith

pub constant_within : (types : List Ty) (numbers : List ℕ) (i : ℕ) (type : Ty) → InRange (sizes_of types) numbers → i < length types → type ≡ get_or types i type → get_or numbers i 0 < length (constants (shape type))
constant_within [] numbers i type range within is = absurd (omega (arith, within))
constant_within (t ∷ types) [] i type range within is = absurd range
constant_within (t ∷ types) (n ∷ numbers) zero type range within is = subst (λ (u : Ty). n < length (constants (shape u))) (sym is) range.0
constant_within (t ∷ types) (n ∷ numbers) (suc i) type range within is = constant_within types numbers i type range.1 (omega (arith, within)) is

next_text : (types : List Ty) (numbers : List ℕ) (i : ℕ) (type : Ty) → InRange (sizes_of types) numbers → i < length types → type ≡ get_or types i type
    → take (suc i) (chosen (constants_each types) numbers) ≡ take i (chosen (constants_each types) numbers) ++ get_or (constants (shape type)) (get_or numbers i 0) [] ∷ []
next_text [] numbers i type range within is = absurd (omega (arith, within))
next_text (t ∷ types) [] i type range within is = absurd range
next_text (t ∷ types) (n ∷ numbers) zero type range within is = ap (λ (u : Ty). get_or (constants (shape u)) n [] ∷ []) (sym is)
next_text (t ∷ types) (n ∷ numbers) (suc i) type range within is = ap (λ (more : List (List ℕ)). get_or (constants (shape t)) n [] ∷ more) (next_text types numbers i type range.1 (omega (arith, within)) is)

pub texts_more : (types : List Ty) (numbers : List ℕ) (i : ℕ) (type : Ty) (made new : List (List ℕ)) (text : List ℕ) → InRange (sizes_of types) numbers → i < length types → type ≡ get_or types i type → text ≡ get_or (constants (shape type)) (get_or numbers i 0) text
    → made ≡ take i (chosen (constants_each types) numbers) → new ≡ made ++ text ∷ [] → new ≡ take (i + 1) (chosen (constants_each types) numbers)
texts_more types numbers i type made new text range within is read before pushed =
    let one : text ≡ get_or (constants (shape type)) (get_or numbers i 0) [] = read ∙ get_or_default (constants (shape type)) (get_or numbers i 0) text [] (constant_within types numbers i type range within is) in
    pushed ∙ ap₂ (λ (front : List (List ℕ)) (last : List ℕ). front ++ last ∷ []) before one ∙ sym (next_text types numbers i type range within is) ∙ ap (λ n. take n (chosen (constants_each types) numbers)) (sym (add-one i))

pub texts_all : (types : List Ty) (numbers : List ℕ) (i : ℕ) → InRange (sizes_of types) numbers → length types ≤ i → take i (chosen (constants_each types) numbers) ≡ chosen (constants_each types) numbers
texts_all [] numbers zero range past = refl
texts_all [] numbers (suc i) range past = refl
texts_all (t ∷ types) numbers zero range past = absurd (omega (arith, past))
texts_all (t ∷ types) [] (suc i) range past = absurd range
texts_all (t ∷ types) (n ∷ numbers) (suc i) range past = ap (λ (more : List (List ℕ)). get_or (constants (shape t)) n [] ∷ more) (texts_all types numbers i range.1 (omega (arith, past)))

-- ---- attributes

pub values_more : (s : Shape) (number : ℕ) (values new : List Shown) (one : Shown) → values ≡ map (shown_as s) (range_with_len 0 number) → one ≡ shown_as s number → new ≡ values ++ one ∷ [] → new ≡ map (shown_as s) (range_with_len 0 (number + 1))
values_more s number values new one before is pushed =
    pushed ∙ ap₂ (λ (front : List Shown) (last : Shown). front ++ last ∷ []) before is ∙ sym (map-range_with_len_more (shown_as s) 0 number number (omega arith))

pub small_at : (attrs : List (List ℕ × Ty)) (i : ℕ) (attr : List ℕ × Ty) → i < length attrs → attr ≡ get_or attrs i attr → AreAttributes (typed attrs) → IsSmall (shape attr.1)
small_at attrs i attr within is h = at_place (λ all. AreAttributes (typed all)) (λ one. IsSmall (shape one.1)) (λ _ _ are. (are.0.0, are.1)) attrs i attr h within is

-- ---- dimensions

pub attributes_at : (dims : List DimType) (k : ℕ) (dim : DimType) → KeepDims dims → k < length dims → dim ≡ get_or dims k dim → AreAttributes (typed dim.attrs)
attributes_at dims k dim kept within is = (keeps_at dims k dim kept within is).attributes

pub plans_more : (g : Grammar) (dims : List DimType) (used : List ℕ) (i k : ℕ) (dim : DimType) (made new : List DimPlan) (one : DimPlan) → i < length used → k ≡ get_or used i 0 → k < length dims → dim ≡ get_or dims k dim → one ≡ dim_plan g k dim
    → made ≡ map (plan_at g dims) (take i used) → new ≡ made ++ one ∷ [] → new ≡ map (plan_at g dims) (take (i + 1) used)
plans_more g dims used i k dim made new one within place below is planned before pushed =
    let last : one ≡ plan_at g dims k = planned ∙ ap (dim_plan g k) (is ∙ get_or_default dims k dim no_dim below) in
    let more : map (plan_at g dims) (take (i + 1) used) ≡ map (plan_at g dims) (take i used) ++ plan_at g dims k ∷ [] =
    ap (map (plan_at g dims)) (take_more used i 0 within ∙ ap (λ n. take i used ++ n ∷ []) (sym place)) ∙ map-append (plan_at g dims) (take i used) (k ∷ []) in
    pushed ∙ ap₂ (λ (front : List DimPlan) (plan : DimPlan). front ++ plan ∷ []) before last ∙ sym more

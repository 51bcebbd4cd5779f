-- Tests on names and values.
use Rattle.std.specs.Prelude.{ℕ, ◌&&◌, Bool, true, false, Option, List, [], ◌∷◌, bytes_eq}
use Rattle.std.specs.List.{position}
use Rattle.xdg_problem.specs.declared.parts.DimPlan.{DimPlan}
use Rattle.xdg_problem.specs.declared.parts.Shown.{Shown}
use Rattle.xdg_problem.specs.declared.parts.Shown.TheVariants as shown

abbrev pub same_texts : List (List ℕ) → List (List ℕ) → Bool
same_texts [] [] = true
same_texts [] (y ∷ ys) = false
same_texts (x ∷ xs) [] = false
same_texts (x ∷ xs) (y ∷ ys) = bytes_eq x y && same_texts xs ys

-- two values are shown alike
abbrev pub same_shown : Shown → Shown → Bool
same_shown (shown.One x) (shown.One y) = bytes_eq x y
same_shown (shown.One x) (shown.Many ys) = false
same_shown (shown.Many xs) (shown.One y) = false
same_shown (shown.Many xs) (shown.Many ys) = same_texts xs ys

-- the number of the dimension with this name
abbrev pub dim_number : List DimPlan → List ℕ → Option ℕ
dim_number dims name = position (λ plan. bytes_eq plan.name name) dims

-- the number of the label
abbrev pub label_number : List (List ℕ) → List ℕ → Option ℕ
label_number labels name = position (λ label. bytes_eq label name) labels

-- the number of the value
abbrev pub value_number : List Shown → Shown → Option ℕ
value_number values value = position (λ v. same_shown v value) values

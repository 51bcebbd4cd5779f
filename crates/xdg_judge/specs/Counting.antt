-- What the conditions count, as the code counts it: a number for each pair of keys.
use Rattle.std.specs.Prelude.{◌≡◌, ℕ, ◌==◌, ◌&&◌, List, [], slice_index, slice_index_or, count_by}
use Rattle.xdg_problem.specs.declared.analysis.Edge.{Edge}
use Rattle.xdg_problem.specs.declared.conditions.Condition.{Condition}
use Rattle.xdg_problem.specs.declared.conditions.Condition.TheVariants as conditions

-- The two numbers of an edge by which a condition counts it. Mothers has one, and 0 before it.
abbrev pub first_key : Condition → Edge → ℕ
first_key conditions.Mothers e = 0
first_key conditions.InCount e = e.daughter.0
first_key condition e = e.mother.0

abbrev pub second_key : Condition → Edge → ℕ
second_key conditions.Mothers e = e.daughter.0
second_key conditions.Pair e = e.daughter.0
second_key condition e = e.label.0

-- the number that a table has for two numbers
abbrev pub counted : List (List ℕ) → ℕ → ℕ → ℕ
counted table a b = slice_index (slice_index_or table a []) b

-- a table has for each two numbers how many edges have them
abbrev pub IsTally : Condition → List Edge → List (List ℕ) → Type 0
IsTally condition edges table = (a b : ℕ) → counted table a b ≡ count_by (λ e. (first_key condition e == a) && (second_key condition e == b)) edges

-- Answers that are exact.
use Rattle.std.specs.Prelude.{◌≡◌, Option, Some, None}

-- the answer is the one thing of which P holds, and None where it holds of nothing
abbrev pub IsExactly : {A : Type 0} → (A → Type 0) → Option A → Type 0
IsExactly {A} P None = (a : A) → P a → ⊥
IsExactly {A} P (Some a) = P a × ((b : A) → P b → b ≡ a)

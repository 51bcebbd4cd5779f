-- Which lists of numbers go with a shape.
use Rattle.std.specs.Prelude.{ℕ, ◌<◌, List, [], ◌∷◌}

-- A shape has the number of values of each decision, in order. x goes with its front: x is no longer than the shape,
-- and each number is one of the values of its decision.
abbrev pub Fits : List ℕ → List ℕ → Type 0
Fits shape [] = Unit {0}
Fits [] (a ∷ x) = ⊥
Fits (s ∷ shape) (a ∷ x) = (a < s) × Fits shape x

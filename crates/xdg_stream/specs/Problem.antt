-- Two states of one problem.
use Rattle.std.specs.Prelude.{◌≡◌, ◌↔◌, ℕ, List}

-- the shape is the same, and the same prefixes are counted
pub record SameProblem (shape : List ℕ) (P : List ℕ → Type 0) (later : List ℕ) (Q : List ℕ → Type 0) : Type 0 where
  pub sizes : later ≡ shape
  pub counts : (p : List ℕ) → Q p ↔ P p

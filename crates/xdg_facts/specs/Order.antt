-- The one order on lists of numbers, which serves prefixes and whole vectors alike.
use Rattle.std.specs.Prelude.{◌≡◌, ℕ, ◌<◌, ◌⊎◌, List, [], ◌∷◌}

-- x comes before y: it has the smaller number at the first difference, or it ends where y goes on
abbrev pub Less : List ℕ → List ℕ → Type 0
Less x [] = ⊥
Less [] (b ∷ y) = Unit {0}
Less (a ∷ x) (b ∷ y) = (a < b) ⊎ ((a ≡ b) × Less x y)

-- x is y or comes before it
abbrev pub AtMost : List ℕ → List ℕ → Type 0
AtMost x y = (x ≡ y) ⊎ Less x y

-- x comes after p and after everything that begins with p
abbrev pub Past : List ℕ → List ℕ → Type 0
Past [] x = ⊥
Past (a ∷ p) [] = ⊥
Past (a ∷ p) (b ∷ x) = (a < b) ⊎ ((a ≡ b) × Past p x)

-- a relation on lists of numbers that is a strict total order
pub record IsStrictOrder (R : List ℕ → List ℕ → Type 0) : Type 0 where
  pub irreflexive : (x : List ℕ) → R x x → ⊥
  pub transitive : (x y z : List ℕ) → R x y → R y z → R x z
  pub total : (x y : List ℕ) → R x y ⊎ ((x ≡ y) ⊎ R y x)

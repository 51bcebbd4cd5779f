-- The box of a vector's values, and the prefixes with which a closed box agrees.
use Rattle.std.specs.Prelude.{ℕ, ◌==◌, Bool, List, [], ◌∷◌, map}
use Rattle.xdg_problem.specs.declared.parts.Parts.{Parts}
use Rattle.xdg_problem.specs.Places.{below}
use Rattle.xdg_problem.specs.Vectors.{shape}
use Rattle.xdg_problem.specs.Boxes.{IsBox, LiesIn, Agrees, full}
use Rattle.xdg_rules.specs.Rules.{first_true, IsClosed}

-- of so many values one remains
abbrev pub one_value : ℕ → ℕ → List Bool
one_value size x = map (λ v. v == x) (below size)

-- the box in which each decision of a vector has its number alone; a decision behind the vector has all its values
abbrev pub only : List ℕ → List ℕ → List (List Bool)
only sizes [] = full sizes
only [] (x ∷ numbers) = []
only (size ∷ sizes) (x ∷ numbers) = one_value size x ∷ only sizes numbers

-- the first value that remains of each decision; in a box of single values the only one
abbrev pub first_numbers : List (List Bool) → List ℕ
first_numbers box = map first_true box

-- a prefix is boxed where a closed box of the problem's shape agrees with it
pub record Boxed (parts : Parts) (prefix : List ℕ) : Type 0 where
  pub box : List (List Bool)
  pub is : IsBox (shape parts) box
  pub closed : IsClosed parts box
  pub agrees : Agrees box prefix

-- no closed box lies in the box
abbrev pub HasNoClosed : Parts → List (List Bool) → Type 0
HasNoClosed parts box = (small : List (List Bool)) → IsBox (shape parts) small → IsClosed parts small → LiesIn small box → ⊥

-- the greatest closed box that lies in a box: each other one lies in it
pub record IsGreatestClosed (parts : Parts) (box greatest : List (List Bool)) : Type 0 where
  pub is : IsBox (shape parts) greatest
  pub closed : IsClosed parts greatest
  pub lies : LiesIn greatest box
  pub most : (small : List (List Bool)) → IsBox (shape parts) small → IsClosed parts small → LiesIn small box → LiesIn small greatest

-- Tuples as three numbers each, and the search for the least that fails.
use Rattle.std.specs.Prelude.{ℕ, ◌<◌, List, [], ◌∷◌}
use Rattle.xdg_problem.specs.declared.conditions.Condition.{Condition}
use Rattle.xdg_problem.specs.declared.conditions.Condition.TheVariants as conditions
use Rattle.xdg_problem.specs.declared.parts.Group.{Group}
use Rattle.xdg_problem.specs.declared.parts.Parts.{Parts}
use Rattle.xdg_problem.specs.Places.{nodes}
use Rattle.xdg_problem.specs.Arguments.{first_dim, label_count}

-- the tuple of a condition that begins with some of three numbers; those that it has no place for are left out
abbrev pub tuple_for : Condition → ℕ → ℕ → ℕ → List ℕ
tuple_for conditions.Cycle u x y = u ∷ []
tuple_for conditions.Roots u x y = u ∷ []
tuple_for conditions.Mothers u x y = u ∷ []
tuple_for conditions.Pair u x y = u ∷ x ∷ []
tuple_for conditions.InCount u x y = u ∷ x ∷ []
tuple_for conditions.OutCount u x y = u ∷ x ∷ []
tuple_for conditions.Order u x y = u ∷ x ∷ y ∷ []
tuple_for conditions.Between u x y = u ∷ x ∷ y ∷ []
tuple_for conditions.Agr u x y = u ∷ []
tuple_for conditions.Agree u x y = u ∷ x ∷ y ∷ []
tuple_for conditions.Govern u x y = u ∷ x ∷ y ∷ []
tuple_for conditions.Below u x y = u ∷ x ∷ []
tuple_for conditions.Blocked u x y = u ∷ x ∷ []
tuple_for conditions.Link u x y = u ∷ x ∷ y ∷ []
tuple_for conditions.Rule u x y = []
tuple_for conditions.Bound u x y = []

-- the tuples of a condition are those of numbers below sizes
abbrev pub IsSearched : Condition → Type 0
IsSearched conditions.Roots = ⊥
IsSearched conditions.Rule = ⊥
IsSearched conditions.Bound = ⊥
IsSearched condition = Unit {0}

-- below what the second number stands: 1 where the tuples have no second
abbrev pub second_size : Condition → Parts → Group → ℕ
second_size conditions.Pair parts group = nodes parts
second_size conditions.InCount parts group = label_count parts (first_dim group)
second_size conditions.OutCount parts group = label_count parts (first_dim group)
second_size conditions.Order parts group = nodes parts
second_size conditions.Between parts group = nodes parts
second_size conditions.Agree parts group = label_count parts (first_dim group)
second_size conditions.Govern parts group = label_count parts (first_dim group)
second_size conditions.Below parts group = nodes parts
second_size conditions.Blocked parts group = nodes parts
second_size conditions.Link parts group = label_count parts (first_dim group)
second_size condition parts group = 1

-- below what the third number stands: 1 where the tuples have no third
abbrev pub third_size : Condition → Parts → Group → ℕ
third_size conditions.Order parts group = nodes parts
third_size conditions.Between parts group = nodes parts
third_size conditions.Agree parts group = nodes parts
third_size conditions.Govern parts group = nodes parts
third_size conditions.Link parts group = nodes parts
third_size condition parts group = 1

-- the first of the numbers below a size at which Q fails
pub record FirstOne (size : ℕ) (Q : ℕ → Type 0) (y : ℕ) : Type 0 where
  pub within : y < size
  pub fails : Q y → ⊥
  pub before : (c : ℕ) → c < y → Q c

-- the first of the pairs of numbers below two sizes at which Q fails
pub record FirstTwo (middle last : ℕ) (Q : ℕ → ℕ → Type 0) (x y : ℕ) : Type 0 where
  pub within : x < middle
  pub here : FirstOne last (Q x) y
  pub before : (b : ℕ) → b < x → (c : ℕ) → c < last → Q b c

-- the first of the triples of numbers below three sizes at which Q fails
pub record FirstThree (size middle last : ℕ) (Q : ℕ → ℕ → ℕ → Type 0) (u x y : ℕ) : Type 0 where
  pub within : u < size
  pub here : FirstTwo middle last (Q u) x y
  pub before : (a : ℕ) → a < u → (b : ℕ) → b < middle → (c : ℕ) → c < last → Q a b c

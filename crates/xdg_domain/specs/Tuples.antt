-- The numbers of tuples: the first field counts slowest.
use Rattle.std.specs.Prelude.{◌≡◌, ℕ, ◌<◌, ◌+◌, ◌*◌, List, [], ◌∷◌}
use Rattle.std.proofs.Common.{◌/◌, ◌%◌}
use Rattle.xdg_domain.specs.Shapes.{product}

-- the number of the tuple whose constants have these numbers, where the fields have these sizes
unfoldable pub index : List ℕ → List ℕ → ℕ
index (size ∷ more) (n ∷ ns) = n * product more + index more ns
index _ _ = 0

-- the numbers of the constants of the tuple with that number
unfoldable pub places : List ℕ → ℕ → List ℕ
places [] n = []
places (size ∷ more) n = n / product more ∷ places more (n % product more)

-- one number for each field, in range
abbrev pub InRange : List ℕ → List ℕ → Type 0
InRange [] [] = Unit {0}
InRange (size ∷ more) (n ∷ ns) = (n < size) × InRange more ns
InRange _ _ = ⊥

-- over fields of these sizes the numbers of tuples and the tuples are one to one: each tuple has a number below their count, each
-- such number has a tuple, and each gives the other back
pub record TupleLaws (sizes : List ℕ) : Type 0 where
  pub below : (numbers : List ℕ) → InRange sizes numbers → index sizes numbers < product sizes
  pub range : (n : ℕ) → n < product sizes → InRange sizes (places sizes n)
  pub back : (numbers : List ℕ) → InRange sizes numbers → places sizes (index sizes numbers) ≡ numbers
  pub forth : (n : ℕ) → n < product sizes → index sizes (places sizes n) ≡ n

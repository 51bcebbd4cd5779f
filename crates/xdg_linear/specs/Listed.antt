-- The list of all arrangements, and how far it has been passed.
use Rattle.std.specs.Prelude.{ℕ, List, [], ◌∷◌, Option}
use Rattle.std.specs.List.{AllByRecursion}
use Rattle.xdg_facts.specs.Listing.{RisesFrom}
use Rattle.xdg_linear.specs.Arrangements.{IsArrangement, IsAfter}
use Rattle.xdg_facts.specs.Membership.{In}

-- the lists rise strictly, so that none stands twice
abbrev pub Rises : List (List ℕ) → Type 0
Rises [] = Unit {0}
Rises (x ∷ xs) = RisesFrom x xs

-- xs holds, in rising order, exactly the lists of numbers that satisfy P
pub record AreAll (P : List ℕ → Type 0) (xs : List (List ℕ)) : Type 0 where
  pub rises : Rises xs
  pub each : AllByRecursion P xs
  pub all : (x : List ℕ) → P x → In xs x

-- the arrangements, each once
abbrev pub AreArrangements : List ℕ → List (List ℕ) → Type 0
AreArrangements ranks xs = AreAll (IsArrangement ranks) xs

-- those up to the present one; where none is present yet, there are none
abbrev pub ArePassed : List ℕ → Option (List ℕ) → List (List ℕ) → Type 0
ArePassed ranks present xs = AreAll (λ x. IsArrangement ranks x × (IsAfter present x → ⊥)) xs

-- those after the present one
abbrev pub AreLeft : List ℕ → Option (List ℕ) → List (List ℕ) → Type 0
AreLeft ranks present xs = AreAll (λ x. IsArrangement ranks x × IsAfter present x) xs

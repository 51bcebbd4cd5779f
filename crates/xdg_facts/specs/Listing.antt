-- The list, in rising order, of all that satisfy a predicate.
use Rattle.std.specs.Prelude.{◌≡◌, ℕ, List, [], ◌∷◌}
use Rattle.std.specs.List.{AllByRecursion}
use Rattle.xdg_facts.specs.Order.{Less}
use Rattle.xdg_facts.specs.Fits.{Fits}
use Rattle.xdg_facts.specs.Membership.{In}

-- the list rises strictly, and all of it comes after `start`
abbrev pub RisesFrom : List ℕ → List (List ℕ) → Type 0
RisesFrom start [] = Unit {0}
RisesFrom start (x ∷ xs) = Less start x × RisesFrom x xs

-- xs holds, in rising order, exactly the lists after `start` that go with the shape and satisfy P. The empty list comes
-- before all others, so it is the start where there is none.
pub record IsListing (shape : List ℕ) (P : List ℕ → Type 0) (start : List ℕ) (xs : List (List ℕ)) : Type 0 where
  pub rises : RisesFrom start xs
  pub each : AllByRecursion (λ x. Fits shape x × P x) xs
  pub all : (x : List ℕ) → Fits shape x → P x → Less start x → In xs x

-- x satisfies P and does not come after p
abbrev pub SoFar : (List ℕ → Type 0) → List ℕ → List ℕ → Type 0
SoFar P p x = P x × (Less p x → ⊥)

-- x satisfies P and comes before c
abbrev pub Before : (List ℕ → Type 0) → List ℕ → List ℕ → Type 0
Before P c x = P x × Less x c

-- there is one list, and no other, that is the listing
pub record HasOneListing (shape : List ℕ) (P : List ℕ → Type 0) (start : List ℕ) : Type 0 where
  pub members : List (List ℕ)
  pub listing : IsListing shape P start members
  pub only : (xs : List (List ℕ)) → IsListing shape P start xs → members ≡ xs

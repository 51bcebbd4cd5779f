-- The definitions at a small shape, worked out by hand: two decisions of two values, where [0, 0] alone is not counted.
use Rattle.std.specs.Prelude.{◌≡◌, ℕ, List, [], ◌∷◌, filter, refl}
use Rattle.std.proofs.Common.{inl, inr, lit<}
use Rattle.xdg_facts.specs.Listing.{RisesFrom}
use Rattle.xdg_facts.specs.Prefixes.{prefixes}
use Rattle.xdg_facts.specs.Whole.{reach, is_whole}

-- the shape
abbrev pub shape : List ℕ
shape = 2 ∷ 2 ∷ []

-- the counted prefixes
abbrev pub counted : List (List ℕ)
counted = (0 ∷ []) ∷ (0 ∷ 1 ∷ []) ∷ (1 ∷ []) ∷ (1 ∷ 0 ∷ []) ∷ (1 ∷ 1 ∷ []) ∷ []

all_prefixes : prefixes shape ≡ (0 ∷ []) ∷ (0 ∷ 0 ∷ []) ∷ (0 ∷ 1 ∷ []) ∷ (1 ∷ []) ∷ (1 ∷ 0 ∷ []) ∷ (1 ∷ 1 ∷ []) ∷ []
all_prefixes = refl

rising : RisesFrom [] counted
rising = (tt, (inr (refl, tt), (inl (lit< tt), (inr (refl, tt), (inr (refl, inl (lit< tt)), tt)))))

solutions : filter (is_whole shape) counted ≡ (0 ∷ 1 ∷ []) ∷ (1 ∷ 0 ∷ []) ∷ (1 ∷ 1 ∷ []) ∷ []
solutions = refl

reach_of_two : reach shape 2 counted ≡ 1
reach_of_two = refl

reach_of_four : reach shape 4 counted ≡ 2
reach_of_four = refl

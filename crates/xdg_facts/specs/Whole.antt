-- The whole vectors among prefixes.
use Rattle.std.specs.Prelude.{◌≡◌, ℕ, Bool, List, length, filter, take, nat_eq}

-- x satisfies P and has a number for each decision of the shape
abbrev pub Whole : List ℕ → (List ℕ → Type 0) → List ℕ → Type 0
Whole shape P x = P x × (length x ≡ length shape)

-- whether x has a number for each decision of the shape
abbrev pub is_whole : List ℕ → List ℕ → Bool
is_whole shape x = nat_eq (length x) (length shape)

-- how many whole vectors stand among the first b of the counted
abbrev pub reach : List ℕ → ℕ → List (List ℕ) → ℕ
reach shape b counted = length (filter (is_whole shape) (take b counted))

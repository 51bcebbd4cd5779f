-- What a search passes on its way from one prefix to another.
use Rattle.std.specs.Prelude.{◌≡◌, ℕ, ◌+◌, List, [], ◌∷◌, ◌++◌, length, filter}
use Rattle.xdg_facts.specs.Listing.{IsListing, SoFar}
use Rattle.xdg_facts.specs.Whole.{is_whole}

-- n counted prefixes come after `from` and not after `to`, and none of them is whole
pub record Charges (shape : List ℕ) (P : List ℕ → Type 0) (from to : List ℕ) (n : ℕ) : Type 0 where
  pub passed : List (List ℕ)
  pub count : length passed ≡ n
  pub none : filter (is_whole shape) passed ≡ []
  pub listing : IsListing shape (SoFar P to) from passed

-- n counted prefixes come after `from` and not after `to`, and the last, which is `to`, is the only whole one
pub record Finds (shape : List ℕ) (P : List ℕ → Type 0) (from to : List ℕ) (n : ℕ) : Type 0 where
  pub passed : List (List ℕ)
  pub count : length passed + 1 ≡ n
  pub none : filter (is_whole shape) passed ≡ []
  pub whole : length to ≡ length shape
  pub listing : IsListing shape (SoFar P to) from (passed ++ to ∷ [])

-- The numbers that a cardinality allows, as what they are: a rising list of numbers below 128 that is never empty.
use Rattle.std.specs.Prelude.{◌≡◌, ℕ, Bool, ◌||◌, ◌==◌, List, [], filter}
use Rattle.xdg_facts.specs.Rises.{has, numbers_below, Rises}

-- the rising list of the numbers below 128 that pass the test
abbrev pub cards : (ℕ → Bool) → List ℕ
cards test = numbers_below 128 test

-- the list is what a cardinality allows: it rises, it is the list of the numbers that stand in it, and some number does
pub record IsCards (s : List ℕ) : Type 0 where
  pub rises : Rises 0 128 s
  pub whole : s ≡ cards (has s)
  pub some : s ≡ [] → ⊥

-- the numbers of s, and n
abbrev pub with_card : List ℕ → ℕ → List ℕ
with_card s n = cards (λ m. (m == n) || has s m)

-- the numbers of s that stand in t too
abbrev pub common : List ℕ → List ℕ → List ℕ
common s t = filter (has t) s

-- All nodes of a sentence as a set.
use Rattle.std.specs.Prelude.{◌≡◌, ◌↔◌, ℕ, ◌<◌, true, List}
use Rattle.xdg_facts.specs.Rises.{has}

-- the set has the first nodes, so many
abbrev pub IsEvery : ℕ → List ℕ → Type 0
IsEvery count set = (v : ℕ) → (has set v ≡ true) ↔ (v < count)

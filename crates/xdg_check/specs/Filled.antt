-- Counts that are filled in, class after class.
use Rattle.std.specs.Prelude.{◌≡◌, ℕ, ◌<◌, List, slice_get, slice_index_or, Some}
use Rattle.xdg_check.specs.declared.checked.Class.{Class}
use Rattle.xdg_check.specs.Counts.{Counting}
use Rattle.xdg_facts.specs.Capped.{capped}

-- the classes that stand before a place in the order keep their counts
abbrev pub AreFilled : (Class → ℕ) → Counting → List Class → List ℕ → ℕ → Type 0
AreFilled kept names cs order i = (j : ℕ) → j < i → (c : Class) → slice_get cs (slice_index_or order j 0) ≡ Some c → kept c ≡ capped (names c.name)

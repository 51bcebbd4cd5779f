-- The boxes of the prefixes of a search.
use Rattle.std.specs.Prelude.{◌≡◌, ℕ, ◌+◌, ◌<◌, ◌≤◌, ◌⊎◌, Bool, true, false, List, [], All, length, take, slice_index, slice_index_or}
use Rattle.xdg_problem.specs.declared.parts.Parts.{Parts}
use Rattle.xdg_problem.specs.Boxes.{Has, IsBox, IsOnly, LiesIn, Agrees}
use Rattle.xdg_problem.specs.Vectors.{shape}
use Rattle.xdg_rules.specs.Boxed.{Boxed}
use Rattle.xdg_rules.specs.Rules.{IsClosed}
use Rattle.xdg_store.specs.declared.change.Change.{Change}
use Rattle.xdg_store.specs.declared.change.Change.TheVariants as changes

-- the greatest closed box that agrees with a prefix
pub record IsLevel (parts : Parts) (prefix : List ℕ) (box : List (List Bool)) : Type 0 where
  pub is : IsBox (shape parts) box
  pub closed : IsClosed parts box
  pub agrees : Agrees box prefix
  pub most : (small : List (List Bool)) → IsBox (shape parts) small → IsClosed parts small → Agrees small prefix → LiesIn small box

-- of the decision d the box new has the value v alone, and of the other decisions all that the box old has
pub record IsRestricted (old new : List (List Bool)) (d v : ℕ) : Type 0 where
  pub inside : LiesIn new old
  pub only : IsOnly new d v
  pub most : (small : List (List Bool)) → LiesIn small old → IsOnly small d v → LiesIn small new

-- what taking all values of d but v comes to
abbrev pub Restricts : Change → List (List Bool) → List (List Bool) → ℕ → ℕ → Type 0
-- it was the only one
Restricts changes.Same old new d v = (new ≡ old) × IsRestricted old new d v
Restricts changes.Changed old new d v = IsRestricted old new d v
-- it doesn't remain
Restricts changes.Emptied old new d v = Has old d v → ⊥

-- what the step to a longer prefix comes to: its box, or that it isn't boxed
abbrev pub Narrows : Bool → Parts → List ℕ → List (List Bool) → Type 0
Narrows true parts prefix box = IsLevel parts prefix box
Narrows false parts prefix box = Boxed parts prefix → ⊥

-- a box of a history for each front of a list of numbers, by its place
pub record HasLevels (parts : Parts) (history : List (List (List Bool))) (marks numbers : List ℕ) : Type 0 where
  pub count : length marks ≡ length numbers + 1
  pub within : (k : ℕ) → k < length marks → slice_index marks k < length history
  pub rising : (j k : ℕ) → j ≤ k → k < length marks → slice_index marks j ≤ slice_index marks k
  pub each : (k : ℕ) → k < length marks → IsLevel parts (take k numbers) (slice_index_or history (slice_index marks k) [])

-- there is a box for each front, or no prefix is boxed at all
abbrev pub AreLevels : Parts → List (List (List Bool)) → List ℕ → List ℕ → Type 0
AreLevels parts history marks numbers = HasLevels parts history marks numbers ⊎ ((marks ≡ []) × (numbers ≡ []) × ((p : List ℕ) → Boxed parts p → ⊥))

-- all propagators are still on a box
abbrev pub AllStill : {P : Type 0} → (P → Parts → List (List Bool) → Type 0) → List P → Parts → List (List Bool) → Type 0
AllStill still props parts box = All (λ p. still p parts box) props

-- something holds of the box of each front
abbrev pub AreAll : (Parts → List (List Bool) → Type 0) → Parts → List (List (List Bool)) → List ℕ → Type 0
AreAll Calm parts history marks = (k : ℕ) → k < length marks → Calm parts (slice_index_or history (slice_index marks k) [])

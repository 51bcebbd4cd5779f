-- What holds of a search between two calls.
use Rattle.std.specs.Prelude.{◌≡◌, ◌≤◌, ℕ, List, Option, Some, None, length, take}
use Rattle.xdg_stream.specs.Place.{Stands}
use Rattle.xdg_stream.specs.declared.search.Step.{Step}
use Rattle.xdg_stream.specs.declared.search.Step.TheVariants as steps

-- The budget covers what has been charged, and a search that is not done stands at a front, whose numbers are the first of those
-- that it charged last. There is room for the numbers of each prefix.
pub record IsLawful (shape : List ℕ) (P : List ℕ → Type 0) (numbers reached : List ℕ) (room : ℕ) (done : Option Step) (charged budget : ℕ) : Type 0 where
  pub within : charged ≤ budget
  pub stands : done ≡ None → Stands shape P numbers
  pub begins : done ≡ None → take (length numbers) reached ≡ numbers
  pub wide : length shape ≤ room
  pub halted : done ≡ Some steps.Found → ⊥

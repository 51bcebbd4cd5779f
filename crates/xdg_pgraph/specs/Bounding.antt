-- How numbers of edges stand to those that entries allow, as the code bounds them.
use Rattle.std.specs.Prelude.{◌≡◌, ◌<◌, ◌≤◌, ◌+◌, ◌^◌, ◌⊎◌, ◌↔◌, ℕ, Bool, false, List, All, Contains}
use Rattle.std.specs.Int.{bit_at}
use Rattle.xdg_problem.specs.declared.parts.Group.{Group}
use Rattle.xdg_problem.specs.Boxes.{Has, entry_decision}
use Rattle.xdg_rules.specs.Rules.{HasNoneWithin}
use Rattle.xdg_pgraph.specs.declared.bounds.Allowed.{Allowed}
use Rattle.xdg_pgraph.specs.declared.bounds.Looked.{Looked}
use Rattle.xdg_pgraph.specs.declared.bundle.Bundle.{Bundle}
use Rattle.xdg_pgraph.specs.Bundles.{numbers_of}

-- the bounds of some numbers and of those of a row more: each of the two is one of before, or of the row
pub record Widens (row : List ℕ) (old new : Allowed) : Type 0 where
  pub most : old.behind ≤ new.behind
  pub most_of : All (λ k. k < new.behind) row
  pub most_is : (new.behind ≡ old.behind) ⊎ ((k : ℕ) × Contains row k × (k + 1 ≡ new.behind))
  pub least : new.least ≤ old.least
  pub least_of : All (λ k. new.least ≤ k) row
  pub least_is : (new.least ≡ old.least) ⊎ Contains row new.least

-- bounds are those of some numbers: the least, and the one behind the greatest. Of none the first is beyond all numbers of 32 bits
pub record Spans (numbers : List ℕ) (allowed : Allowed) : Type 0 where
  pub behind : All (λ k. k < allowed.behind) numbers
  pub behind_is : (allowed.behind ≡ 0) ⊎ ((k : ℕ) × Contains numbers k × (k + 1 ≡ allowed.behind))
  pub least : All (λ k. allowed.least ≤ k) numbers
  pub least_is : ((k : ℕ) → k < 2 ^ 32 → k ≤ allowed.least) ⊎ Contains numbers allowed.least

-- an entry that remains allows a number
abbrev pub SomeAllows : List (List Bool) → ℕ → (ℕ → List ℕ) → ℕ → Type 0
SomeAllows box node row number = (c : ℕ) × Has box (entry_decision node) c × Contains (row c) number

-- of the entries of a node that were seen and remain: the bounds are theirs, as far as they don't pass a limit, and each allows a number
-- between two, unless it is said that some may not
pub record Tells (box : List (List Bool)) (node : ℕ) (row : ℕ → List ℕ) (limit least most : ℕ) (Seen : ℕ → Type 0) (looked : Looked) : Type 0 where
  pub behind : (c : ℕ) → Seen c → Has box (entry_decision node) c → All (λ m. m < looked.allowed.behind) (row c)
  pub behind_is : (m : ℕ) → m + 1 ≡ looked.allowed.behind → SomeAllows box node row m
  pub first : (c : ℕ) → Seen c → Has box (entry_decision node) c → All (λ m. looked.allowed.least ≤ m) (row c)
  pub first_is : looked.allowed.least ≤ limit → SomeAllows box node row looked.allowed.least
  pub within : looked.barred ≡ false → (c : ℕ) → Seen c → Has box (entry_decision node) c → HasNoneWithin (row c) least most → ⊥

-- of all that remain, of the numbers of a bundle
abbrev pub TellsAll : Group → Bundle → ℕ → ℕ → List (List Bool) → Looked → Type 0
TellsAll group bundle least most box looked =
    Tells box bundle.node (numbers_of bundle.way group bundle.node bundle.label) 128 least most (Has box (entry_decision bundle.node)) looked

-- each entry that remains allows a number of edges between two
abbrev pub NoneBarred : Group → Bundle → ℕ → ℕ → List (List Bool) → Type 0
NoneBarred group bundle least most box =
    (c : ℕ) → Has box (entry_decision bundle.node) c → HasNoneWithin (numbers_of bundle.way group bundle.node bundle.label c) least most → ⊥

-- the entries that allow no number between two, of the first so many: a bit for each
abbrev pub AreBarred : ℕ → Group → Bundle → ℕ → ℕ → ℕ → Type 0
AreBarred count group bundle least most bits =
    (c : ℕ) → (bit_at bits c ≡ 1) ↔ ((c < count) × HasNoneWithin (numbers_of bundle.way group bundle.node bundle.label c) least most)

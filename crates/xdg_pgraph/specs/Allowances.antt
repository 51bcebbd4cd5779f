-- The numbers of edges that entries allow, by classes of entries, as the code keeps them: a mask of 64 bits a class.
use Rattle.std.specs.Prelude.{◌≡◌, ◌≢◌, ◌<◌, ◌≤◌, ◌+◌, ◌*◌, ◌%◌, ◌^◌, ℕ, true, List, [], All, Contains, length, slice_index_or}
use Rattle.std.specs.Int.{bit_at}
use lib.Bits.{bit_or}
use Rattle.xdg_problem.specs.declared.parts.Feat.{Feat}
use Rattle.xdg_problem.specs.declared.parts.Group.{Group}
use Rattle.xdg_problem.specs.declared.parts.Parts.{Parts}
use Rattle.xdg_pgraph.specs.declared.allowances.Allowances.{Allowances}
use Rattle.xdg_pgraph.specs.declared.allowances.Class.{Class}
use Rattle.xdg_pgraph.specs.declared.bundle.Bundle.{Bundle}
use Rattle.xdg_pgraph.specs.Bounding.{Spans}
use Rattle.xdg_pgraph.specs.Bundles.{argument_of, numbers_of}

-- what a class keeps of some numbers: their bounds, and whether each number between them is one of them
pub record Keeps (numbers : List ℕ) (class : Class) : Type 0 where
  pub spans : Spans numbers class.allowed
  pub whole : class.whole ≡ true → (k : ℕ) → class.allowed.least ≤ k → k < class.allowed.behind → Contains numbers k

-- a word with the bit of an entry
abbrev pub bit_of : ℕ → ℕ
bit_of k = 1 * 2 ^ k % 2 ^ 64

-- a class with an entry more
abbrev pub with_entry : Class → ℕ → Class
with_entry class k = record { entries = bit_or class.entries (bit_of k); allowed = class.allowed; first = class.first; whole = class.whole }

-- candidates of a node, which has so many, that allow the same numbers of a bundle's edges as the first of them
pub record IsClass (count : ℕ) (group : Group) (bundle : Bundle) (class : Class) : Type 0 where
  pub first : class.first < count
  pub each : (c : ℕ) → bit_at class.entries c ≡ 1
      → (c < count)
      × (numbers_of bundle.way group bundle.node bundle.label c ≡ numbers_of bundle.way group bundle.node bundle.label class.first)
  pub kept : Keeps (numbers_of bundle.way group bundle.node bundle.label class.first) class

-- classes of all candidates of a node, which has so many
pub record AreClasses (count : ℕ) (group : Group) (bundle : Bundle) (classes : List Class) : Type 0 where
  pub few : count ≤ 64
  pub cover : (c : ℕ) → c < count → (class : Class) × Contains classes class × (bit_at class.entries c ≡ 1)
  pub right : All (IsClass count group bundle) classes

-- the classes are those of a bundle, or there are none
abbrev pub HasClasses : Parts → Group → Bundle → List Class → Type 0
HasClasses parts group bundle classes =
    classes ≢ [] → AreClasses (length (slice_index_or parts.candidates bundle.node [])) group bundle classes

-- the class at a place has such numbers
pub record IsClassOf (candidates : List (List Feat)) (bundle : Bundle) (numbers : List ℕ) (classes : List Class) (at : ℕ) : Type 0 where
  pub within : at < length classes
  pub same : (group : Group) (class : Class) → candidates ≡ slice_index_or group.feats bundle.node [] → slice_index_or classes at class ≡ class
      → numbers_of bundle.way group bundle.node bundle.label class.first ≡ numbers

-- where a bundle's classes stand among those of all bundles, where there are so many labels
abbrev pub class_place : ℕ → Bundle → ℕ
class_place labels bundle = (bundle.node * labels + bundle.label) * 2 + argument_of bundle.way

-- rows of classes are those of the first bundles
abbrev pub AreRows : Parts → Group → ℕ → List (List Class) → Type 0
AreRows parts group labels rows =
    (bundle : Bundle) → bundle.label < labels → HasClasses parts group bundle (slice_index_or rows (class_place labels bundle) [])

-- a table has what the entries of a principle use allow
abbrev pub AreAllowances : Parts → Group → Allowances → Type 0
AreAllowances parts group allowances = AreRows parts group allowances.labels allowances.rows

-- Edges by their daughters: the rows of words in which the code keeps them, and what they mean.
use Rattle.std.specs.Prelude.{◌≡◌, ◌≢◌, ◌⊎◌, ◌↔◌, ℕ, ◌<◌, ◌≤◌, ◌+◌, ◌*◌, ◌/◌, ◌%◌, Bool, true, false, not, IsTrue, List, [], length, slice_index_or, Contains}
use Rattle.xdg_problem.specs.declared.analysis.Edge.{Edge}
use Rattle.xdg_problem.specs.declared.parts.Parts.{Parts}
use Rattle.xdg_problem.specs.Analyses.{IsPlace}
use Rattle.xdg_problem.specs.Boxes.{May, Must}
use Rattle.xdg_problem.specs.Places.{edge, nodes}
use Rattle.xdg_store.specs.Layout.{edge_bit, is_set}
use Rattle.xdg_store.specs.declared.across.Mothers.{Mothers}
use Rattle.xdg_store.specs.declared.change.Change.{Change}
use Rattle.xdg_store.specs.declared.change.Change.TheVariants as changes
use Rattle.xdg_store.specs.declared.decision.Decision.{Decision}
use Rattle.xdg_store.specs.declared.decision.Decision.TheVariants as decisions
use Rattle.xdg_facts.specs.Rises.{has}

-- where the mothers of a daughter by a label stand, in a sentence of n nodes
abbrev pub mothers_at : ℕ → ℕ → ℕ → ℕ → ℕ
mothers_at n dim daughter label = (dim * n + daughter) * 32 + label

abbrev pub edge_at : ℕ → Edge → ℕ
edge_at n e = mothers_at n e.dim.0 e.daughter.0 e.label.0

-- how many there are of all daughters and labels
abbrev pub row_count : Parts → ℕ
row_count parts = (length parts.dims * nodes parts) * 32

abbrev pub no_mothers : Mothers
no_mothers = record { may = []; must = [] }

-- whose mothers stand at a place
abbrev pub daughter_at : ℕ → ℕ → ℕ
daughter_at n place = place / 32 % n

-- a mother is among those at a place
abbrev pub in_may : List Mothers → ℕ → ℕ → Bool
in_may rows place mother = has (slice_index_or rows place no_mothers).may mother

abbrev pub in_must : List Mothers → ℕ → ℕ → Bool
in_must rows place mother = has (slice_index_or rows place no_mothers).must mother

-- by the daughter is said of an edge what the words say
pub record IsKept (n : ℕ) (words : List ℕ) (rows : List Mothers) (e : Edge) : Type 0 where
  pub may : in_may rows (edge_at n e) e.mother.0 ≡ is_set words (edge_bit n e)
  pub must : in_must rows (edge_at n e) e.mother.0 ≡ not (is_set words (edge_bit n e + 128))

-- of each edge
pub record AreKept (parts : Parts) (words : List ℕ) (rows : List Mothers) : Type 0 where
  pub long : row_count parts ≤ length rows
  pub each : (e : Edge) → IsPlace parts e → IsKept (nodes parts) words rows e

-- rows have only nodes of a sentence of n nodes, and none its daughter
abbrev pub OnlyOthers : (List Mothers → ℕ → ℕ → Bool) → ℕ → List Mothers → Type 0
OnlyOthers has_mother n rows = (place mother : ℕ) → IsTrue (has_mother rows place mother) → (mother < n) × (mother ≢ daughter_at n place)

-- ---- how they are made anew

-- an edge stands in so many rows
pub record Fits (n rows : ℕ) (e : Edge) : Type 0 where
  pub label : e.label.0 < 32
  pub mother : e.mother.0 < n
  pub daughter : e.daughter.0 < n
  pub row_in : edge_at n e < rows

-- a decision on an edge is one on such an edge, whose bits stand in so many words
abbrev pub FitsIn : ℕ → ℕ → ℕ → Decision → Type 0
FitsIn n rows words (decisions.Entry node) = Unit {0}
FitsIn n rows words (decisions.Attr dim node attr) = Unit {0}
FitsIn n rows words (decisions.Place edge) = Fits n rows edge × (edge_bit n edge + 128 < 64 * words)

-- on one side the row of an edge has its mother where that is wanted, and all else is as it was
pub record Sets (has_mother : List Mothers → ℕ → ℕ → Bool) (n : ℕ) (e : Edge) (wanted : Bool) (old new : List Mothers) : Type 0 where
  pub here : has_mother new (edge_at n e) e.mother.0 ≡ wanted
  pub others : (place mother : ℕ) → (place ≢ edge_at n e) ⊎ (mother ≢ e.mother.0) → has_mother new place mother ≡ has_mother old place mother

-- on both sides
pub record Renews (n : ℕ) (e : Edge) (possible certain : Bool) (old new : List Mothers) : Type 0 where
  pub count : length new ≡ length old
  pub may : Sets in_may n e possible old new
  pub must : Sets in_must n e certain old new

-- an edge was forced by a call that answers so
abbrev pub Forces : Change → ℕ → Edge → List Mothers → List Mothers → Type 0
Forces changes.Same n e old new = new ≡ old
Forces changes.Changed n e old new = Renews n e (in_may old (edge_at n e) e.mother.0) true old new
Forces changes.Emptied n e old new = new ≡ old

-- and forbidden
abbrev pub Forbids : Change → ℕ → Edge → List Mothers → List Mothers → Type 0
Forbids changes.Same n e old new = new ≡ old
Forbids changes.Changed n e old new = Renews n e false (in_must old (edge_at n e) e.mother.0) old new
Forbids changes.Emptied n e old new = new ≡ old

-- what is kept of an edge is what words say
abbrev pub RenewsBy : ℕ → List ℕ → Edge → List Mothers → List Mothers → Type 0
RenewsBy n words e old new = Renews n e (is_set words (edge_bit n e)) (not (is_set words (edge_bit n e + 128))) old new

-- and of the edge on which a decision is
abbrev pub RenewsOf : ℕ → List ℕ → Decision → List Mothers → List Mothers → Type 0
RenewsOf n words (decisions.Entry node) old new = new ≡ old
RenewsOf n words (decisions.Attr dim node attr) old new = new ≡ old
RenewsOf n words (decisions.Place edge) old new = RenewsBy n words edge old new

-- that of the edges of some decisions
pub record RenewsAll (n : ℕ) (words : List ℕ) (changed : List Decision) (old new : List Mothers) : Type 0 where
  pub count : length new ≡ length old
  pub each : (e : Edge) → Fits n (length old) e → IsKept n words old e ⊎ Contains changed (decisions.Place e) → IsKept n words new e

-- ---- the start

-- all other nodes of a sentence of n nodes may be mothers of a daughter, and none must be
pub record IsFull (n daughter : ℕ) (row : Mothers) : Type 0 where
  pub may : (mother : ℕ) → IsTrue (has row.may mother) ↔ ((mother < n) × (mother ≢ daughter))
  pub must : row.must ≡ []

-- of the daughter at each place
abbrev pub AreFull : List Mothers → ℕ → Type 0
AreFull rows n = (place : ℕ) → place < length rows → IsFull n (daughter_at n place) (slice_index_or rows place no_mothers)

-- ---- what is read

-- of each of so many labels, the other nodes from which edges with it may lead into a daughter, and from which they must
pub record AreMothers (parts : Parts) (box : List (List Bool)) (dim daughter labels : ℕ) (rows : List Mothers) : Type 0 where
  pub count : length rows ≡ labels
  pub may : (mother label : ℕ)
      → label < labels
      → IsTrue (in_may rows label mother)
      ↔ ((mother < nodes parts) × (mother ≢ daughter) × May parts box (edge dim mother label daughter))
  pub must : (mother label : ℕ)
      → label < labels
      → IsTrue (in_must rows label mother)
      ↔ ((mother < nodes parts) × (mother ≢ daughter) × Must parts box (edge dim mother label daughter))

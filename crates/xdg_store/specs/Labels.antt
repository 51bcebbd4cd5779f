-- The labels of edges into daughters: the masks by which the code keeps them, and what they mean.
use Rattle.std.specs.Prelude.{◌≡◌, ◌≢◌, ◌⊎◌, ◌↔◌, ℕ, ◌<◌, ◌≤◌, ◌+◌, ◌*◌, Bool, true, IsTrue, List, length, slice_index_or}
use Rattle.std.specs.Int.{bit_at}
use Rattle.xdg_facts.specs.Rises.{has}
use Rattle.xdg_problem.specs.declared.analysis.Edge.{Edge}
use Rattle.xdg_problem.specs.declared.parts.DimPlan.{DimPlan}
use Rattle.xdg_problem.specs.declared.parts.Parts.{Parts}
use Rattle.xdg_problem.specs.Analyses.{IsPlace}
use Rattle.xdg_problem.specs.Boxes.{May, Must}
use Rattle.xdg_problem.specs.Places.{edge, nodes}
use Rattle.xdg_problem.specs.Problems.{IsProblem}
use Rattle.xdg_store.specs.Across.{OnlyOthers, edge_at, in_may, in_must}
use Rattle.xdg_store.specs.declared.across.Mothers.{Mothers}
use Rattle.xdg_store.specs.declared.labels.Labels.{Labels}
use Rattle.xdg_store.specs.declared.labels.LabelsInto.{LabelsInto}

-- ---- what is said of them

-- something holds of one number at least, and of more than one
abbrev pub IsSome : (ℕ → Type 0) → Type 0
IsSome P = (m : ℕ) × P m

abbrev pub IsMore : (ℕ → Type 0) → Type 0
IsMore P = (m : ℕ) × (k : ℕ) × (m ≢ k) × P m × P k

-- the bits of a label say of how many mothers something holds
pub record IsLabelled (P : ℕ → Type 0) (labels : Labels) (label : ℕ) : Type 0 where
  pub some : (bit_at labels.some label ≡ 1) ↔ IsSome P
  pub more : (bit_at labels.more label ≡ 1) ↔ IsMore P

-- an edge with a label leads from a mother into a daughter, and something holds of it
abbrev pub LeadsInto : Parts → (Edge → Type 0) → ℕ → ℕ → ℕ → ℕ → Type 0
LeadsInto parts P dim daughter label mother = IsPlace parts (edge dim mother label daughter) × P (edge dim mother label daughter)

-- those of the edges into a daughter of which something holds
abbrev pub AreLabels : Parts → (Edge → Type 0) → ℕ → ℕ → Labels → Type 0
AreLabels parts P dim daughter labels = (label : ℕ) → IsLabelled (LeadsInto parts P dim daughter label) labels label

-- ---- where they stand

-- the place of those into a daughter, in a sentence of n nodes
abbrev pub labels_at : ℕ → ℕ → ℕ → ℕ
labels_at n dim daughter = dim * n + daughter

abbrev pub no_labels : LabelsInto
no_labels = record { may = record { some = 0; more = 0 }; must = record { some = 0; more = 0 } }

abbrev pub at_place : List LabelsInto → ℕ → LabelsInto
at_place into place = slice_index_or into place no_labels

-- those of each node of the sentence, for the edges of a box
pub record AreLabelsOf (parts : Parts) (box : List (List Bool)) (dim : ℕ) (labels : List LabelsInto) : Type 0 where
  pub count : length labels ≡ nodes parts
  pub may : (daughter : ℕ) → daughter < nodes parts → AreLabels parts (May parts box) dim daughter (at_place labels daughter).may
  pub must : (daughter : ℕ) → daughter < nodes parts → AreLabels parts (Must parts box) dim daughter (at_place labels daughter).must

-- rows have the mother of an edge
abbrev pub InRows : (List Mothers → ℕ → ℕ → Bool) → ℕ → List Mothers → Edge → Type 0
InRows has_mother n rows e = IsTrue (has_mother rows (edge_at n e) e.mother.0)

-- rows have only others, and what stands of each daughter is what they say
pub record AreTold (parts : Parts) (rows : List Mothers) (into : List LabelsInto) : Type 0 where
  pub wide : length rows ≤ length into * 32
  pub may_others : OnlyOthers in_may (nodes parts) rows
  pub must_others : OnlyOthers in_must (nodes parts) rows
  pub may : (dim daughter : ℕ)
      → dim < length parts.dims
      → daughter < nodes parts
      → AreLabels parts (InRows in_may (nodes parts) rows) dim daughter (at_place into (labels_at (nodes parts) dim daughter)).may
  pub must : (dim daughter : ℕ)
      → dim < length parts.dims
      → daughter < nodes parts
      → AreLabels parts (InRows in_must (nodes parts) rows) dim daughter (at_place into (labels_at (nodes parts) dim daughter)).must

-- ---- how they are made anew

-- the bits of one label are made anew, and of no other
pub record Marks (P : ℕ → Type 0) (label : ℕ) (old new : Labels) : Type 0 where
  pub here : IsLabelled P new label
  pub some_others : (l : ℕ) → l ≢ label → bit_at new.some l ≡ bit_at old.some l
  pub more_others : (l : ℕ) → l ≢ label → bit_at new.more l ≡ bit_at old.more l

-- an edge is among those of its row where it is wanted, and the bits of its label are made anew unless the row stays
pub record RenewsSide (e : Edge) (wanted : Bool) (old new : List ℕ) (before after : Labels) : Type 0 where
  pub here : has new e.mother.0 ≡ wanted
  pub others : (m : ℕ) → m ≢ e.mother.0 → has new m ≡ has old m
  pub labels : ((new ≡ old) × (after ≡ before)) ⊎ Marks (λ m. IsTrue (has new m)) e.label.0 before after

-- the bits of the label of an edge say again what its row says
abbrev pub SaysAgain : (List Mothers → ℕ → ℕ → Bool) → ℕ → Edge → List Mothers → List Mothers → Labels → Labels → Type 0
SaysAgain has_mother n e old new before after =
    (((m : ℕ) → has_mother new (edge_at n e) m ≡ has_mother old (edge_at n e) m) × (after ≡ before))
    ⊎ Marks (λ m. IsTrue (has_mother new (edge_at n e) m)) e.label.0 before after

-- and those of no other
pub record Relabels (n : ℕ) (e : Edge) (old new : List Mothers) (before after : List LabelsInto) : Type 0 where
  pub count : length after ≡ length before
  pub may : SaysAgain in_may n e old new (at_place before (labels_at n e.dim.0 e.daughter.0)).may (at_place after (labels_at n e.dim.0 e.daughter.0)).may
  pub must : SaysAgain in_must n e old new (at_place before (labels_at n e.dim.0 e.daughter.0)).must (at_place after (labels_at n e.dim.0 e.daughter.0)).must
  pub others : (place : ℕ) → place ≢ labels_at n e.dim.0 e.daughter.0 → at_place after place ≡ at_place before place

-- after a change of rows what stands is right again, for a problem of n nodes of which something holds
abbrev pub StaysTold : ℕ → (Parts → Type 0) → List Mothers → List LabelsInto → List Mothers → List LabelsInto → Type 0
StaysTold n P old before new after = (parts : Parts) → IsProblem parts → nodes parts ≡ n → P parts → AreTold parts old before → AreTold parts new after

-- ---- the start

-- the labels of all edges into a daughter on a dimension, in a sentence of n nodes
pub record AreFirst (n : ℕ) (plan : DimPlan) (into : LabelsInto) : Type 0 where
  pub some : (label : ℕ) → (bit_at into.may.some label ≡ 1) ↔ ((plan.graph ≡ true) × (label < length plan.labels) × (1 < n))
  pub more : (label : ℕ) → (bit_at into.may.more label ≡ 1) ↔ ((plan.graph ≡ true) × (label < length plan.labels) × (2 < n))
  pub must_some : into.must.some ≡ 0
  pub must_more : into.must.more ≡ 0

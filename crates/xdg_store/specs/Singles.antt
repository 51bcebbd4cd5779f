-- Decisions that have one value left, by the words.
use Rattle.std.specs.Prelude.{◌≡◌, ◌≢◌, ℕ, ◌<◌, ◌+◌, ◌*◌, ◌/◌, ◌%◌, true, List, [], length, slice_index_or}
use Rattle.xdg_base.specs.declared.ids.EntryNo.{EntryNo}
use Rattle.xdg_problem.specs.declared.parts.AttrPlan.{AttrPlan}
use Rattle.xdg_problem.specs.declared.parts.DimPlan.{DimPlan}
use Rattle.xdg_problem.specs.Arguments.{no_attr, no_plan}
use Rattle.xdg_store.specs.Layout.{is_set}

-- no two bits of a row are set
abbrev pub IsAlone : List ℕ → ℕ → ℕ → Type 0
IsAlone words start size = (x y : ℕ) → x < size → y < size → is_set words (start + x) ≡ true → is_set words (start + y) ≡ true → y ≡ x

-- of each candidate list
abbrev pub AreEntriesAlone : List ℕ → List (List EntryNo) → Type 0
AreEntriesAlone words candidates = (node : ℕ) → node < length candidates → IsAlone words (node * 1024) (length (slice_index_or candidates node []))

-- of each attribute of a node, whose rows start with a bit
abbrev pub AreAttrsAlone : List ℕ → ℕ → List AttrPlan → Type 0
AreAttrsAlone words start attrs = (attr : ℕ) → attr < length attrs → IsAlone words (start + attr * 1024) (length (slice_index_or attrs attr no_attr).values)

-- of each edge out of a mother, by label and daughter
abbrev pub AreEdgesAlone : List ℕ → ℕ → ℕ → ℕ → ℕ → Type 0
AreEdgesAlone words start labels n mother =
    (place : ℕ) → place < labels * n → place % n ≢ mother
    → is_set words (start + place / n * 256 + place % n) ≡ true
    → is_set words (start + place / n * 256 + place % n + 128) ≡ true
    → ⊥

-- of both for a node on a dimension, whose bits start with one
pub record IsNodeAlone (words : List ℕ) (plan : DimPlan) (start n node : ℕ) : Type 0 where
  pub attrs : AreAttrsAlone words start plan.attrs
  pub edges : plan.graph ≡ true → AreEdgesAlone words (start + 8192) (length plan.labels) n node

-- for each node on each dimension
abbrev pub AreNodesAlone : List ℕ → List DimPlan → ℕ → Type 0
AreNodesAlone words dims n = (at : ℕ) → at < length dims * n → IsNodeAlone words (slice_index_or dims (at / n) no_plan) (n * 1024 + at * 16384) n (at % n)

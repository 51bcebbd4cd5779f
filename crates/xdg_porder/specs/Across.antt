-- Edges across nodes that can't be below their mothers, by a table of nodes below others.
use Rattle.std.specs.Prelude.{◌≡◌, ℕ, ◌<◌, true, Bool, List}
use Rattle.xdg_nodeset.specs.Tables.{InTable}
use Rattle.xdg_problem.specs.declared.parts.Group.{Group}
use Rattle.xdg_problem.specs.declared.parts.Parts.{Parts}
use Rattle.xdg_problem.specs.declared.parts.Principle.TheVariants as principles
use Rattle.xdg_problem.specs.Arguments.{first_dim}
use Rattle.xdg_problem.specs.Asking.{IsBetween}
use Rattle.xdg_problem.specs.Paths.{Above}
use Rattle.xdg_problem.specs.Places.{nodes}
use Rattle.xdg_rules.specs.Rules.{may_edges}
use Rattle.xdg_store.specs.States.{State}
use Rattle.xdg_graph.specs.Edges.{edge_labels}
use Rattle.xdg_porder.specs.Items.{IsReady, MayFollow}
use Rattle.xdg_facts.specs.Rises.{has}

-- a node strictly between u and v is not in a set
abbrev pub Crosses : ℕ → List ℕ → ℕ → Type 0
Crosses u reached v = (w : ℕ) × IsBetween u v w × (has reached w ≡ true → ⊥)

-- by the table no edge from u with a label may cross a node
abbrev pub IsLabelDone : Parts → Group → List (List ℕ) → ℕ → ℕ → List (List Bool) → Type 0
IsLabelDone parts group table u label box = (v : ℕ) → MayFollow parts group box u label v → (w : ℕ) → IsBetween u v w → (InTable table u w → ⊥) → ⊥

-- none with one of the first labels
abbrev pub AreLabelsDone : Parts → Group → List (List ℕ) → ℕ → ℕ → List (List Bool) → Type 0
AreLabelsDone parts group table u k box = (label : ℕ) → label < k → IsLabelDone parts group table u label box

-- none from one of the first nodes
abbrev pub AreNodesDone : Parts → Group → List (List ℕ) → ℕ → List (List Bool) → Type 0
AreNodesDone parts group table k box = (u : ℕ) → u < k → AreLabelsDone parts group table u (edge_labels parts (first_dim group)) box

-- a projectivity, with a table that has at least what the box allows
pub record IsTabled (group : Group) (table : List (List ℕ)) (s : State) : Type 0 where
  pub ready : IsReady group s
  pub projective : group.principle ≡ principles.Projectivity
  pub covers : (a b : ℕ) → Above (may_edges s.parts s.now (first_dim group)) a b → InTable table a b

-- at a node
abbrev pub IsAcrossNode : Group → List (List ℕ) → ℕ → State → Type 0
IsAcrossNode group table u s = IsTabled group table s × (u < nodes s.parts)

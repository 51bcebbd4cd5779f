-- Which nodes have lost values.
use Rattle.std.specs.Prelude.{◌≡◌, ℕ, ◌<◌, true, Bool, List, length}
use Rattle.xdg_problem.specs.declared.analysis.Edge.{Edge}
use Rattle.xdg_problem.specs.declared.parts.Parts.{Parts}
use Rattle.xdg_problem.specs.Analyses.{IsPlace}
use Rattle.xdg_problem.specs.Arguments.{attr_count}
use Rattle.xdg_problem.specs.Boxes.{entry_decision, attr_decision, edge_decision}
use Rattle.xdg_problem.specs.Places.{nodes}
use Rattle.xdg_store.specs.declared.decision.Decision.{Decision}
use Rattle.xdg_store.specs.declared.decision.Decision.TheVariants as decisions
use Rattle.xdg_propcore.specs.Losses.{IsLost}
use Rattle.xdg_propcore.specs.declared.touched.Touched.{Touched}
use Rattle.xdg_facts.specs.Rises.{has}
use Rattle.xdg_nodeset.specs.Tables.{InTable}

-- the decision is one on nodes below 128 and labels below 32
abbrev pub IsSmall : Decision → Type 0
IsSmall (decisions.Entry node) = node.0 < 128
IsSmall (decisions.Attr dim node attr) = node.0 < 128
IsSmall (decisions.Place edge) = (edge.label.0 < 32) × (edge.mother.0 < 128) × (edge.daughter.0 < 128)

-- the nodes of an edge are there
pub record MarksEdge (t : Touched) (e : Edge) : Type 0 where
  pub mother : has t.mothers e.mother.0 ≡ true
  pub daughter : has t.daughters e.daughter.0 ≡ true
  pub out : InTable t.out e.label.0 e.mother.0
  pub into : InTable t.into e.label.0 e.daughter.0

-- the nodes of a decision are there, if it is one on an entry, or on an attribute or an edge of the dimension
abbrev pub Marks : Touched → ℕ → Decision → Type 0
Marks t dim (decisions.Entry node) = has t.entries node.0 ≡ true
Marks t dim (decisions.Attr d node attr) = d.0 ≡ dim → has t.attrs node.0 ≡ true
Marks t dim (decisions.Place edge) = edge.dim.0 ≡ dim → MarksEdge t edge

-- all that was there is there still
pub record Grows (old new : Touched) : Type 0 where
  pub entries : (n : ℕ) → has old.entries n ≡ true → has new.entries n ≡ true
  pub attrs : (n : ℕ) → has old.attrs n ≡ true → has new.attrs n ≡ true
  pub mothers : (n : ℕ) → has old.mothers n ≡ true → has new.mothers n ≡ true
  pub daughters : (n : ℕ) → has old.daughters n ≡ true → has new.daughters n ≡ true
  pub out : (l n : ℕ) → InTable old.out l n → InTable new.out l n
  pub into : (l n : ℕ) → InTable old.into l n → InTable new.into l n

-- all nodes below 128 are there, at all labels below 32
pub record HasAll (t : Touched) : Type 0 where
  pub entries : (n : ℕ) → n < 128 → has t.entries n ≡ true
  pub attrs : (n : ℕ) → n < 128 → has t.attrs n ≡ true
  pub mothers : (n : ℕ) → n < 128 → has t.mothers n ≡ true
  pub daughters : (n : ℕ) → n < 128 → has t.daughters n ≡ true
  pub out : (l n : ℕ) → l < 32 → n < 128 → InTable t.out l n
  pub into : (l n : ℕ) → l < 32 → n < 128 → InTable t.into l n

-- each node is there that has lost something
pub record HasTouched (parts : Parts) (dim : ℕ) (old now : List (List Bool)) (t : Touched) : Type 0 where
  pub entries : (node v : ℕ) → node < nodes parts → IsLost old now (entry_decision node) v → has t.entries node ≡ true
  pub attrs : (node attr v : ℕ) → dim < length parts.dims → node < nodes parts → attr < attr_count parts dim
      → IsLost old now (attr_decision parts dim node attr) v → has t.attrs node ≡ true
  pub edges : (e : Edge) (v : ℕ) → IsPlace parts e → e.dim.0 ≡ dim → IsLost old now (edge_decision parts e) v → MarksEdge t e

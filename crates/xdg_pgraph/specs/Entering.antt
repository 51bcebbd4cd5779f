-- The nodes into which some edges lead.
use Rattle.std.specs.Prelude.{◌≡◌, ◌≢◌, ◌↔◌, ℕ, Bool, true, false, List, IsTrue, Contains}
use Rattle.xdg_problem.specs.declared.analysis.Edge.{Edge}
use Rattle.xdg_pgraph.specs.Seeking.{ToNode}
use Rattle.xdg_pgraph.specs.declared.entered.Count.{Count}
use Rattle.xdg_pgraph.specs.declared.entered.Count.TheVariants as counts
use Rattle.xdg_pgraph.specs.declared.entered.Entered.{Entered}
use Rattle.xdg_facts.specs.Rises.{has}

-- one of some edges leads into a node
abbrev pub Enters : (Edge → Type 0) → ℕ → Type 0
Enters P v = (e : Edge) × P e × ToNode v e

-- two of them do
pub record EnterTwice (P : Edge → Type 0) (v : ℕ) : Type 0 where
  pub first : Edge
  pub one : P first × ToNode v first
  pub second : Edge
  pub two : P second × ToNode v second
  pub differ : first ≢ second

-- the nodes into which one of some edges leads, and those into which two do
pub record Tells (P : Edge → Type 0) (entered : Entered) : Type 0 where
  pub once : (v : ℕ) → IsTrue (has entered.some v) ↔ Enters P v
  pub twice : (v : ℕ) → IsTrue (has entered.more v) ↔ EnterTwice P v

-- one of the edges, out of a node
abbrev pub Leaving : List Edge → ℕ → Edge → Type 0
Leaving edges u e = Contains edges e × (e.mother.0 ≡ u)

-- and with a label
abbrev pub Labelled : List Edge → ℕ → ℕ → Edge → Type 0
Labelled edges u l e = Leaving edges u e × (e.label.0 ≡ l)

-- one edge at least
abbrev pub some_of : Count → Bool
some_of counts.Nothing = false
some_of counts.One = true
some_of counts.More = true

-- more than one
abbrev pub more_of : Count → Bool
more_of counts.Nothing = false
more_of counts.One = false
more_of counts.More = true

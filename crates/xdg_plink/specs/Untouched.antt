-- Places of the first dimension near which nothing was lost.
use Rattle.std.specs.Prelude.{◌≡◌, ◌≢◌, ◌<◌, ℕ, Bool, true, List}
use Rattle.xdg_problem.specs.declared.analysis.Edge.{Edge}
use Rattle.xdg_problem.specs.declared.parts.Group.{Group}
use Rattle.xdg_problem.specs.declared.parts.Linking.{Linking}
use Rattle.xdg_problem.specs.declared.parts.Linking.TheVariants as linkings
use Rattle.xdg_problem.specs.declared.parts.Parts.{Parts}
use Rattle.xdg_problem.specs.Analyses.{IsPlace}
use Rattle.xdg_problem.specs.Arguments.{first_dim}
use Rattle.xdg_problem.specs.Boxes.{May}
use Rattle.xdg_problem.specs.Places.{edge, nodes}
use Rattle.xdg_rules.specs.Rules.{IsPlaceOn}
use Rattle.xdg_propcore.specs.declared.touched.Touched.{Touched}
use Rattle.xdg_plink.specs.Steps.{IsDoneAt}
use Rattle.xdg_plink.specs.declared.near.Near.{Near}
use Rattle.xdg_facts.specs.Rises.{has}

-- ---- what was lost of edges

-- no edge from u to v
abbrev pub AreJoinsFree : Touched → ℕ → ℕ → Type 0
AreJoinsFree lost u v = has lost.mothers u ≡ true → has lost.daughters v ≡ true → ⊥

-- no edge by which a way links v to u
abbrev pub AreLinksFree : Linking → Touched → ℕ → ℕ → Type 0
AreLinksFree linkings.End lost u v = has lost.daughters v ≡ true → ⊥
AreLinksFree linkings.Daughter lost u v = AreJoinsFree lost u v
AreLinksFree linkings.Mother lost u v = AreJoinsFree lost v u
AreLinksFree linkings.BelowStart lost u v = (x : ℕ) → has lost.daughters x ≡ true → ⊥
AreLinksFree linkings.AboveStart lost u v = (x : ℕ) → has lost.daughters x ≡ true → ⊥
AreLinksFree linkings.Sisters lost u v = (has lost.daughters u ≡ true → ⊥) × (has lost.daughters v ≡ true → ⊥)

-- ---- edges near which something was lost

-- an edge from u to v is none of them
abbrev pub IsFree : Near → ℕ → ℕ → Type 0
IsFree near u v = (has near.mothers u ≡ true → ⊥) × (has near.starts u ≡ true → has near.ends v ≡ true → ⊥)

-- beside them u has lost no entry, and no edge was lost by which a way links v to u
abbrev pub HasLinks : Near → Linking → Touched → Type 0
HasLinks near way lost = (u v : ℕ) → u < 128 → IsFree near u v → (has lost.entries u ≡ true → ⊥) × AreLinksFree way lost u v

-- nor an edge from u to v of either dimension
abbrev pub HasJoins : Near → Touched → Touched → Type 0
HasJoins near first second =
    (u v : ℕ) → IsFree near u v → (has second.entries u ≡ true → ⊥) × AreJoinsFree first u v × AreJoinsFree second u v

-- beside them nothing is left to take
abbrev pub AreOthersDone : Near → Parts → Group → List (List Bool) → Type 0
AreOthersDone near parts group box =
    (e : Edge) → IsPlaceOn parts (first_dim group) e → IsFree near e.mother.0 e.daughter.0 → IsDoneAt parts group e box

-- ---- the daughters of a node by a label

-- to the nodes of a set there are places
abbrev pub ArePlaces : Parts → ℕ → ℕ → ℕ → List ℕ → Type 0
ArePlaces parts dim u label set = (v : ℕ) → has set v ≡ true → IsPlace parts (edge dim u label v)

-- a set has those whose edges are among them and may be present, and no others than nodes to which there are places
pub record AreNear (near : Near) (parts : Parts) (box : List (List Bool)) (dim u label : ℕ) (set : List ℕ) : Type 0 where
  pub each : ArePlaces parts dim u label set
  pub others : (v : ℕ) → v < nodes parts → u ≢ v → May parts box (edge dim u label v) → (has set v ≡ true → ⊥) → IsFree near u v

-- nothing is left to take at the places to nodes outside a set
abbrev pub AreOthersDoneAt : Parts → Group → ℕ → ℕ → List ℕ → List (List Bool) → Type 0
AreOthersDoneAt parts group u label set box =
    (e : Edge) → IsPlaceOn parts (first_dim group) e → e.mother.0 ≡ u → e.label.0 ≡ label → (has set e.daughter.0 ≡ true → ⊥) → IsDoneAt parts group e box

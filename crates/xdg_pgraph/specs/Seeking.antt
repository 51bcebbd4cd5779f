-- Edges that are looked for, and edges that are taken away.
use Rattle.std.specs.Prelude.{◌≡◌, ◌≢◌, ◌≤◌, ℕ, Bool, List, [], ◌∷◌, length, Contains}
use Rattle.xdg_problem.specs.declared.analysis.Edge.{Edge}
use Rattle.xdg_problem.specs.declared.parts.Parts.{Parts}
use Rattle.xdg_problem.specs.Boxes.{Has}
use Rattle.xdg_problem.specs.Paths.{mothers}
use Rattle.xdg_nodeset.specs.Tables.{InTable}
use Rattle.xdg_rules.specs.Rules.{IsPlaceOn, SaysPresent, SaysAbsent, may_edges}
use Rattle.xdg_pgraph.specs.declared.found.Found.{Found}
use Rattle.xdg_pgraph.specs.declared.found.Found.TheVariants as founds
use Rattle.xdg_pgraph.specs.declared.entered.Roots.{Roots}
use Rattle.xdg_pgraph.specs.declared.entered.Roots.TheVariants as rootss

-- an edge from a node to another
abbrev pub FromTo : ℕ → ℕ → Edge → Type 0
FromTo u v e = (e.mother.0 ≡ u) × (e.daughter.0 ≡ v)

-- an edge into a node
abbrev pub ToNode : ℕ → Edge → Type 0
ToNode v e = e.daughter.0 ≡ v

-- and with a label
abbrev pub ToWith : ℕ → ℕ → Edge → Type 0
ToWith v l e = ToNode v e × (e.label.0 ≡ l)

-- one of the edges, from a node to another
abbrev pub Joins : List Edge → ℕ → ℕ → Edge → Type 0
Joins edges u v e = Contains edges e × FromTo u v e

-- one of the edges, into a node
abbrev pub Into : List Edge → ℕ → Edge → Type 0
Into edges v e = Contains edges e × ToNode v e

-- and with a label
abbrev pub IntoWith : List Edge → ℕ → ℕ → Edge → Type 0
IntoWith edges v l e = Into edges v e × (e.label.0 ≡ l)

-- what was found, of the edges that are looked for
abbrev pub Finds : (Edge → Type 0) → Found → Type 0
Finds P founds.Nothing = (e : Edge) → P e → ⊥
Finds P (founds.One f) = P f × ((e : Edge) → P e → f ≡ e)
Finds P founds.More = (f : Edge) × (g : Edge) × P f × P g × (f ≡ g → ⊥)

abbrev pub found_with : Found → Edge → Found
found_with founds.Nothing e = founds.One e
found_with (founds.One f) e = founds.More
found_with founds.More e = founds.More

abbrev pub found_merged : Found → Found → Found
found_merged founds.Nothing other = other
found_merged (founds.One f) other = found_with other f
found_merged founds.More other = founds.More

-- more than one edge was found
abbrev pub IsMore : Found → Type 0
IsMore founds.Nothing = ⊥
IsMore (founds.One e) = ⊥
IsMore founds.More = Unit {0}

-- an edge other than this one was found
abbrev pub IsOther : Found → Edge → Type 0
IsOther founds.Nothing e = ⊥
IsOther (founds.One f) e = f ≡ e → ⊥
IsOther founds.More e = Unit {0}

-- the value that says that an edge of the dimension is present, beside which another edge was found
pub record Aims (parts : Parts) (dim : ℕ) (others : Found) (P : Edge → Type 0) (d v : ℕ) : Type 0 where
  pub place : Edge
  pub is : IsPlaceOn parts dim place
  pub aimed : P place
  pub other : IsOther others place
  pub says : SaysPresent parts place d v

-- no node, one alone, or more
abbrev pub RootsAre : List ℕ → Roots → Type 0
RootsAre xs rootss.Nothing = xs ≡ []
RootsAre xs (rootss.One v) = xs ≡ v ∷ []
RootsAre xs rootss.More = 2 ≤ length xs

-- the value that says that an edge is absent, which is the only one of the edges into a node
pub record Only (parts : Parts) (edges : List Edge) (node d v : ℕ) : Type 0 where
  pub place : Edge
  pub among : Contains edges place
  pub into : place.daughter.0 ≡ node
  pub one : mothers edges node ≡ 1
  pub says : SaysAbsent parts place d v

-- no edge that may be the only one into a node may still be absent
abbrev pub NoneOnly : Parts → List (List Bool) → ℕ → ℕ → Type 0
NoneOnly parts box dim w = (d v : ℕ) → Only parts (may_edges parts box dim) w d v → Has box d v → ⊥

-- the table leads from the daughter of an edge back to its mother
abbrev pub Backs : List (List ℕ) → Edge → Type 0
Backs far e = InTable far e.daughter.0 e.mother.0

-- and the edge leads into a node
abbrev pub BacksInto : List (List ℕ) → ℕ → Edge → Type 0
BacksInto far v e = (e.daughter.0 ≡ v) × Backs far e

-- the value that says that an edge of a kind is present, as from one node to another, beside which one of some edges is of that kind
pub record Doubled (parts : Parts) (dim : ℕ) (edges : List Edge) (P : Edge → Type 0) (d x : ℕ) : Type 0 where
  pub place : Edge
  pub is : IsPlaceOn parts dim place
  pub from : P place
  pub other : Edge
  pub among : Contains edges other
  pub differs : place ≢ other
  pub joins : P other
  pub says : SaysPresent parts place d x

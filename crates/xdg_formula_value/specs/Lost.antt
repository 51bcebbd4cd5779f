-- What lost values can have changed of a claim.
use Rattle.std.specs.Prelude.{◌≡◌, ◌⊎◌, ℕ, ◌<◌, ◌≤◌, Bool, true, false, List, length}
use Rattle.xdg_problem.specs.declared.analysis.Edge.{Edge}
use Rattle.xdg_problem.specs.declared.parts.Parts.{Parts}
use Rattle.xdg_problem.specs.Boxes.{IsBox, LiesIn, May, Must}
use Rattle.xdg_problem.specs.Claims.{Claim, negation, conjunction, disjunction, every, some, joined, above, left, same, valued, fitting, Claims, none, claim_then}
use Rattle.xdg_problem.specs.Paths.{Above}
use Rattle.xdg_problem.specs.Places.{nodes}
use Rattle.xdg_problem.specs.Truths.{bound, unbound, AreNodes}
use Rattle.xdg_problem.specs.Vectors.{shape}
use Rattle.xdg_rules.specs.Rules.{may_edges, must_edges}
use Rattle.xdg_rules.specs.Worths.{Makes}
use Rattle.xdg_graph.specs.declared.which.Which.{Which}
use Rattle.xdg_graph.specs.declared.which.Which.TheVariants as whichs
use Rattle.xdg_graph.specs.Edges.{edges_of}
use Rattle.xdg_store.specs.Naming.{Names}
use Rattle.xdg_store.specs.States.{State}
use Rattle.xdg_store.specs.declared.decision.Decision.{Decision}
use Rattle.xdg_store.specs.declared.decision.Decision.TheVariants as decisions
use Rattle.xdg_propcore.specs.Standing.{box_at}
use Rattle.xdg_formula_value.specs.Rows.{Over}
use Rattle.xdg_facts.specs.Rises.{has}

-- a decision is that of the entry of a node
abbrev pub IsEntryOf : Decision → ℕ → Type 0
IsEntryOf (decisions.Entry it) node = it.0 ≡ node
IsEntryOf decision node = ⊥

-- a decision is that of an attribute of a node on a dimension
abbrev pub IsAttrOf : Decision → ℕ → ℕ → ℕ → Type 0
IsAttrOf (decisions.Attr on it which) dim node attr = (on.0 ≡ dim) × (it.0 ≡ node) × (which.0 ≡ attr)
IsAttrOf decision dim node attr = ⊥

-- a decision is that of an edge
abbrev pub IsEdgeOf : Decision → ℕ → ℕ → ℕ → ℕ → Type 0
IsEdgeOf (decisions.Place e) dim mother label daughter = (e.dim.0 ≡ dim) × (e.mother.0 ≡ mother) × (e.label.0 ≡ label) × (e.daughter.0 ≡ daughter)
IsEdgeOf decision dim mother label daughter = ⊥

-- paths of a dimension lead in a new box where they led in an old one: by edges that must be no further, by those that may be as far
pub record PathsStay (parts : Parts) (old new : List (List Bool)) (dim : ℕ) : Type 0 where
  pub must : (u v : ℕ) → Above (must_edges parts new dim) u v → Above (must_edges parts old dim) u v
  pub may : (u v : ℕ) → Above (may_edges parts old dim) u v → Above (may_edges parts new dim) u v

-- a node is another, or stands above it
abbrev pub Reaches : List Edge → ℕ → ℕ → Type 0
Reaches edges u v = (u ≡ v) ⊎ Above edges u v

-- along edges and one more: from a node to its mother, and from its daughter to another node
abbrev pub Passes : List Edge → Edge → ℕ → ℕ → Type 0
Passes edges e u v = Reaches edges u e.mother.0 × Reaches edges e.daughter.0 v

-- the edges by which paths are new with an edge that must be, or gone with one that may not be
abbrev pub IsBy : Which → Parts → List (List Bool) → Edge → Type 0
IsBy whichs.Must parts box e = Must parts box e
IsBy whichs.May parts box e = Must parts box e → ⊥

-- The paths from a node to another may be new or gone with a decision: the paths of the dimension aren't as they were, and the decision is
-- that of an edge that the new box lets stand between the nodes.
abbrev pub MovesPath : Parts → List (List Bool) → List (List Bool) → Decision → ℕ → ℕ → ℕ → Type 0
MovesPath parts old new (decisions.Place e) dim u v =
    (PathsStay parts old new dim → ⊥)
    × ((which : Which) → IsBy which parts new e → Passes (edges_of which parts new dim) e u v)
MovesPath parts old new decision dim u v = ⊥

-- From an old box to a new one, a decision is that of an edge, an attribute or an entry at which a claim looks under a binding, or one with
-- which paths for which it asks may be new or gone. Under a quantifier it is so for some node.
abbrev mutual
  pub Concerns : Parts → List (List Bool) → List (List Bool) → Decision → Claim → (ℕ → ℕ) → Type 0
  Concerns parts old new d (negation c) b = Concerns parts old new d c b
  Concerns parts old new d (conjunction cs) b = ConcernsSome parts old new d cs b
  Concerns parts old new d (disjunction cs) b = ConcernsSome parts old new d cs b
  Concerns parts old new d (every name c) b = (node : ℕ) × Concerns parts old new d c (bound b name node)
  Concerns parts old new d (some name c) b = (node : ℕ) × Concerns parts old new d c (bound b name node)
  Concerns parts old new d (joined dim mother label daughter) b = IsEdgeOf d dim (b mother) label (b daughter)
  Concerns parts old new d (above dim upper lower) b = MovesPath parts old new d dim (b upper) (b lower)
  Concerns parts old new d (left first second) b = ⊥
  Concerns parts old new d (same first second) b = ⊥
  Concerns parts old new d (valued name dim attr value) b = IsAttrOf d dim (b name) attr
  Concerns parts old new d (fitting name table) b = IsEntryOf d (b name)

  pub ConcernsSome : Parts → List (List Bool) → List (List Bool) → Decision → Claims → (ℕ → ℕ) → Type 0
  ConcernsSome parts old new d none b = ⊥
  ConcernsSome parts old new d (claim_then c cs) b = Concerns parts old new d c b ⊎ ConcernsSome parts old new d cs b

-- where a claim asks for paths, something is so
abbrev mutual
  pub AsksIf : Type 0 → Claim → Type 0
  AsksIf P (negation c) = AsksIf P c
  AsksIf P (conjunction cs) = EachAsksIf P cs
  AsksIf P (disjunction cs) = EachAsksIf P cs
  AsksIf P (every name c) = AsksIf P c
  AsksIf P (some name c) = AsksIf P c
  AsksIf P (joined dim mother label daughter) = Unit {0}
  AsksIf P (above dim upper lower) = P
  AsksIf P (left first second) = Unit {0}
  AsksIf P (same first second) = Unit {0}
  AsksIf P (valued name dim attr value) = Unit {0}
  AsksIf P (fitting name table) = Unit {0}

  pub EachAsksIf : Type 0 → Claims → Type 0
  EachAsksIf P none = Unit {0}
  EachAsksIf P (claim_then c cs) = AsksIf P c × EachAsksIf P cs

-- at most one decision has lost values
abbrev pub LosesOne : Parts → List (List Bool) → List (List Bool) → Type 0
LosesOne parts old new = (removed : List Decision) × (length removed ≤ 1) × Names parts old new removed

-- a path leads from a node to another, by the edges of an old box and by those of a new one
abbrev pub Lasts : Which → Parts → List (List Bool) → List (List Bool) → ℕ → ℕ → ℕ → Type 0
Lasts which parts old new dim u v = (v < nodes parts) × Above (edges_of which parts old dim) u v × Above (edges_of which parts new dim) u v

-- to each node of a set
abbrev pub AllLast : Which → Parts → List (List Bool) → List (List Bool) → ℕ → ℕ → List ℕ → Type 0
AllLast which parts old new dim u set = (v : ℕ) → has set v ≡ true → Lasts which parts old new dim u v

-- Where a decision is that of an edge of a dimension, paths lead where it leads: by edges that had to be in the old box if it must be in
-- the new one, and by edges that may be in the new box if it may not be there.
abbrev pub KeepsPath : Parts → List (List Bool) → List (List Bool) → ℕ → Decision → Type 0
KeepsPath parts old new dim (decisions.Place e) =
    e.dim.0 ≡ dim
    → (Must parts new e → Above (must_edges parts old dim) e.mother.0 e.daughter.0)
    × ((May parts new e → ⊥) → Above (may_edges parts new dim) e.mother.0 e.daughter.0)
KeepsPath parts old new dim decision = Unit {0}

-- two bindings agree but on some names
abbrev pub AgreeBut : List ℕ → (ℕ → ℕ) → (ℕ → ℕ) → Type 0
AgreeBut names a b = (name : ℕ) → (has names name ≡ true → ⊥) → b name ≡ a name

-- something is so of a binding that agrees with another on some names
abbrev pub OnNames : List ℕ → ((ℕ → ℕ) → Type 0) → (ℕ → ℕ) → Type 0
OnNames names P b = (a : ℕ → ℕ) × ((name : ℕ) → has names name ≡ true → a name ≡ b name) × P a

-- a box makes a claim true, or false, under some binding
abbrev pub IsMade : Parts → List (List Bool) → Claim → Bool → Type 0
IsMade parts box c truth = (b : ℕ → ℕ) × AreNodes parts b × Makes parts box c truth b

-- a box makes a claim true, or false, for some node for which a name stands
abbrev pub HasNode : Parts → List (List Bool) → Claim → Bool → (ℕ → ℕ) → ℕ → Type 0
HasNode parts box c truth b name = Over false (nodes parts) (λ v. Makes parts box c truth (bound b name v))

-- the same for nodes for which two names stand
abbrev pub HasNodes : Parts → List (List Bool) → Claim → Bool → (ℕ → ℕ) → ℕ → ℕ → Type 0
HasNodes parts box c truth b name other = Over false (nodes parts) (λ v. HasNode parts box c truth (bound b name v) other)

-- an answer that says so only where there is such a binding, and does where it is one of those wanted
pub record Finds (parts : Parts) (box : List (List Bool)) (c : Claim) (truth : Bool) (Wanted : (ℕ → ℕ) → Type 0) (found : Bool) : Type 0 where
  pub sound : found ≡ true → IsMade parts box c truth
  pub complete : (b : ℕ → ℕ) → AreNodes parts b → Wanted b → Makes parts box c truth b → found ≡ true

-- something is so of a binding, where all was seen
abbrev pub Seen : Bool → ((ℕ → ℕ) → Type 0) → (ℕ → ℕ) → Type 0
Seen seen P b = (seen ≡ true) × P b

-- a claim is false in a box if the box gives a part of it a truth under some binding, and only if under one of some names
pub record LeadsTo (parts : Parts) (whole : Claim) (names : List ℕ) (c : Claim) (truth : Bool) : Type 0 where
  pub up : (box : List (List Bool)) (b : ℕ → ℕ) → AreNodes parts b → Makes parts box c truth b → Makes parts box whole false b
  pub down :
      (box : List (List Bool)) → Makes parts box whole false unbound
      → (b : ℕ → ℕ) × AreNodes parts b × AgreeBut names unbound b × Makes parts box c truth b

-- there is a box at a mark, and the present one lies in it
pub record HasEarlier (s : State) (mark : ℕ) : Type 0 where
  pub within : mark < length s.history
  pub is : IsBox (shape s.parts) (box_at s mark)
  pub inside : LiesIn s.now (box_at s mark)

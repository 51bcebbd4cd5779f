-- When a claim is true of an analysis.
use Rattle.std.specs.Prelude.{◌≡◌, ◌⊎◌, ℕ, ◌<◌, ◌==◌, cond, Bool, true, false, List, [], slice_index, slice_index_or}
use Rattle.xdg_problem.specs.declared.analysis.Analysis.{Analysis}
use Rattle.xdg_problem.specs.declared.analysis.Edge.{Edge}
use Rattle.xdg_problem.specs.declared.parts.Parts.{Parts}
use Rattle.xdg_problem.specs.Arguments.{attr_place}
use Rattle.xdg_problem.specs.Paths.{edges_on, IsDaughterBy, Above}
use Rattle.xdg_problem.specs.Places.{nodes}
use Rattle.xdg_problem.specs.Vectors.{entry_places}
use Rattle.xdg_problem.specs.declared.formula.Formula.{Formula}
use Rattle.xdg_problem.specs.Claims.{Claim, negation, conjunction, disjunction, every, some, joined, above, left, same, valued, fitting, Claims, none, claim_then, claim}

-- a name stands for a node, and each other name for what it stood for
abbrev pub bound : (ℕ → ℕ) → ℕ → ℕ → ℕ → ℕ
bound binding name node other = cond (other == name) node (binding other)

-- the node for which a name stands, in a table with a node for each name
abbrev pub stands : List ℕ → ℕ → ℕ
stands table name = slice_index table name

-- no name is bound: each stands for the first node
abbrev pub unbound : ℕ → ℕ
unbound name = 0

-- what a table says for a candidate of a node
abbrev pub says : List (List Bool) → ℕ → ℕ → Bool
says table node candidate = slice_index_or (slice_index_or table node []) candidate false

-- A claim is true under a binding of names to nodes, of entries as places among the candidates, values of attributes and edges.
abbrev mutual
  pub IsTrueOf : Parts → List ℕ → List ℕ → List Edge → Claim → (ℕ → ℕ) → Type 0
  IsTrueOf parts entries attrs edges (negation c) b = IsTrueOf parts entries attrs edges c b → ⊥
  IsTrueOf parts entries attrs edges (conjunction cs) b = EachTrueOf parts entries attrs edges cs b
  IsTrueOf parts entries attrs edges (disjunction cs) b = SomeTrueOf parts entries attrs edges cs b
  IsTrueOf parts entries attrs edges (every name c) b = (node : ℕ) → node < nodes parts → IsTrueOf parts entries attrs edges c (bound b name node)
  IsTrueOf parts entries attrs edges (some name c) b = (node : ℕ) × (node < nodes parts) × IsTrueOf parts entries attrs edges c (bound b name node)
  IsTrueOf parts entries attrs edges (joined dim mother label daughter) b = IsDaughterBy (edges_on dim edges) (b mother) label (b daughter)
  IsTrueOf parts entries attrs edges (above dim upper lower) b = Above (edges_on dim edges) (b upper) (b lower)
  IsTrueOf parts entries attrs edges (left first second) b = b first < b second
  IsTrueOf parts entries attrs edges (same first second) b = b first ≡ b second
  IsTrueOf parts entries attrs edges (valued name dim attr value) b = slice_index attrs (attr_place parts dim (b name) attr) ≡ value
  IsTrueOf parts entries attrs edges (fitting name table) b = says table (b name) (slice_index entries (b name)) ≡ true

  pub EachTrueOf : Parts → List ℕ → List ℕ → List Edge → Claims → (ℕ → ℕ) → Type 0
  EachTrueOf parts entries attrs edges none b = Unit {0}
  EachTrueOf parts entries attrs edges (claim_then c cs) b = IsTrueOf parts entries attrs edges c b × EachTrueOf parts entries attrs edges cs b

  pub SomeTrueOf : Parts → List ℕ → List ℕ → List Edge → Claims → (ℕ → ℕ) → Type 0
  SomeTrueOf parts entries attrs edges none b = ⊥
  SomeTrueOf parts entries attrs edges (claim_then c cs) b = IsTrueOf parts entries attrs edges c b ⊎ SomeTrueOf parts entries attrs edges cs b

-- a claim is true in an analysis
abbrev pub IsTrueIn : Parts → Analysis → Claim → (ℕ → ℕ) → Type 0
IsTrueIn parts analysis c b = IsTrueOf parts (entry_places parts.candidates analysis.entries) analysis.attrs analysis.edges c b

-- a formula is true in an analysis
abbrev pub FormulaHolds : Parts → Analysis → Formula → Type 0
FormulaHolds parts analysis formula = IsTrueIn parts analysis (claim formula) unbound

-- that something is true, or that it is false
abbrev pub HasTruth : Bool → Type 0 → Type 0
HasTruth true P = P
HasTruth false P = P → ⊥

-- each name stands for a node of the sentence
abbrev pub AreNodes : Parts → (ℕ → ℕ) → Type 0
AreNodes parts b = (name : ℕ) → b name < nodes parts

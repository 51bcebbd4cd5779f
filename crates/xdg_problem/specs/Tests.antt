-- What a principle asks of some of the decisions, so that it can be asked before all are made.
use Rattle.std.specs.Prelude.{◌≡◌, ℕ, ◌<◌, ◌≤◌, ◌+◌, ◌==◌, ◌&&◌, ◌||◌, nat_le, Bool, true, false, List, [], ◌∷◌, length, Option, Some, None, Contains}
use Rattle.xdg_problem.specs.declared.analysis.Edge.{Edge}
use Rattle.xdg_problem.specs.declared.conditions.Condition.TheVariants as conditions
use Rattle.xdg_problem.specs.declared.parts.Group.{Group}
use Rattle.xdg_problem.specs.declared.parts.Linking.{Linking}
use Rattle.xdg_problem.specs.declared.parts.Linking.TheVariants as linkings
use Rattle.xdg_problem.specs.declared.parts.Parts.{Parts}
use Rattle.xdg_problem.specs.declared.parts.Principle.{Principle}
use Rattle.xdg_problem.specs.declared.parts.Principle.TheVariants as principles
use Rattle.xdg_problem.specs.Places.{nodes}
use Rattle.xdg_problem.specs.Principles.{linking_of}
use Rattle.xdg_problem.specs.Paths.{NoCycle, roots}
use Rattle.xdg_problem.specs.Features.{in_row, out_row, IsWithin}
use Rattle.xdg_problem.specs.Arguments.{first_dim, second_dim, label_count, truth_of}
use Rattle.xdg_problem.specs.Asking.{AsksOf, attr_places}

-- A test of a principle use. Nodes and labels are numbers from 0. What a test looks at stands beside it; the first and the
-- second dimension are those of the principle use.
pub data Test : Type 0 where
  -- the entry of v, and on the first dimension the edges with label l from v to the nodes up to k
  out_count : (v l k : ℕ) → Test
  -- the entry of v, and on the first dimension the edges with label l to v from the nodes up to k
  in_count : (v l k : ℕ) → Test
  -- on the first dimension the edges to v from the nodes up to k
  one_mother : (v k : ℕ) → Test
  -- on the first dimension the edges out of the nodes up to k
  no_cycle : (k : ℕ) → Test
  -- all edges of the first dimension
  one_root : Test
  -- on the first dimension the edges from u to v
  one_label : (u v : ℕ) → Test
  -- On of u, and on the first dimension the edges out of u
  ordered_daughters : (u : ℕ) → Test
  -- On of u, and all edges of the first dimension
  ordered_yields : (u : ℕ) → Test
  -- all edges of the first dimension
  projective : (u v : ℕ) → Test
  -- the entry and Agr of v
  allowed_value : (v : ℕ) → Test
  -- the entry of u, Agr1 of u, Agr2 of v, and the edge u -l-> v of the first dimension
  agreeing : (u l v : ℕ) → Test
  -- the entry of u, Agr of v, and the edge u -l-> v of the first dimension
  governed : (u l v : ℕ) → Test
  -- all edges of the first and of the second dimension
  climbing : (u v : ℕ) → Test
  -- the entry of w, and all edges of the first and of the second dimension
  not_blocked : (w v : ℕ) → Test
  -- the entry of u, the edge u -l-> v of the first dimension, and on the second the edges that can link v to u in that way
  linked : (way : Linking) (u l v : ℕ) → Test
  -- the entry of u, the edge u -l-> v of the first dimension, and on the second the edges from u to v
  unlinked : (u l v : ℕ) → Test

-- a node, a label and a node
abbrev pub IsTriple : ℕ → ℕ → ℕ → ℕ → ℕ → Type 0
IsTriple n labels u l v = (u < n) × (l < labels) × (v < n)

-- the test of a principle that links in a way
abbrev pub IsLinkTest : Option Linking → Linking → ℕ → ℕ → ℕ → ℕ → ℕ → Type 0
IsLinkTest None asked n labels u l v = ⊥
IsLinkTest (Some way) asked n labels u l v = (asked ≡ way) × IsTriple n labels u l v

-- which tests a principle with its truth values has, with n nodes and so many labels of the first dimension
abbrev pub IsTestOf : Principle → List Bool → ℕ → ℕ → Test → Type 0
IsTestOf principles.Valency truths n labels (out_count v l k) = IsTriple n labels v l k
IsTestOf principles.Valency truths n labels (in_count v l k) = IsTriple n labels v l k
IsTestOf principles.Tree truths n labels (one_mother v k) = (v < n) × (k < n)
IsTestOf principles.Tree truths n labels (no_cycle k) = k < n
IsTestOf principles.Tree truths n labels one_root = Unit {0}
IsTestOf principles.Dag truths n labels (no_cycle k) = k < n
IsTestOf principles.Dag truths n labels one_root = truth_of truths 0 ≡ true
IsTestOf principles.Dag truths n labels (one_label u v) = (truth_of truths 1 ≡ true) × (u < n) × (v < n)
IsTestOf principles.Order truths n labels (ordered_daughters u) = (truth_of truths 0 ≡ false) × (u < n)
IsTestOf principles.Order truths n labels (ordered_yields u) = (truth_of truths 0 ≡ true) × (u < n)
IsTestOf principles.Projectivity truths n labels (projective u v) = (u < n) × (v < n)
IsTestOf principles.Agr truths n labels (allowed_value v) = v < n
IsTestOf principles.Agreement truths n labels (agreeing u l v) = IsTriple n labels u l v
IsTestOf principles.Government truths n labels (governed u l v) = IsTriple n labels u l v
IsTestOf principles.Climbing truths n labels (climbing u v) = (u < n) × (v < n)
IsTestOf principles.Barriers truths n labels (not_blocked w v) = (w < n) × (v < n)
IsTestOf principles.LinkingNotDaughter truths n labels (unlinked u l v) = IsTriple n labels u l v
IsTestOf principle truths n labels (linked way u l v) = IsLinkTest (linking_of principle) way n labels u l v
IsTestOf principle truths n labels test = ⊥

-- the tests of a principle use
abbrev pub IsTest : Parts → Group → Test → Type 0
IsTest parts group test = IsTestOf group.principle group.truths (nodes parts) (label_count parts (first_dim group)) test

-- the edge places of the first dimension that a test looks at
abbrev pub looks_first : ℕ → Test → Edge → Bool
looks_first dim (out_count v l k) e = (e.dim.0 == dim) && (e.mother.0 == v) && (e.label.0 == l) && nat_le e.daughter.0 k
looks_first dim (in_count v l k) e = (e.dim.0 == dim) && (e.daughter.0 == v) && (e.label.0 == l) && nat_le e.mother.0 k
looks_first dim (one_mother v k) e = (e.dim.0 == dim) && (e.daughter.0 == v) && nat_le e.mother.0 k
looks_first dim (no_cycle k) e = (e.dim.0 == dim) && nat_le e.mother.0 k
looks_first dim one_root e = e.dim.0 == dim
looks_first dim (one_label u v) e = (e.dim.0 == dim) && (e.mother.0 == u) && (e.daughter.0 == v)
looks_first dim (ordered_daughters u) e = (e.dim.0 == dim) && (e.mother.0 == u)
looks_first dim (ordered_yields u) e = e.dim.0 == dim
looks_first dim (projective u v) e = e.dim.0 == dim
looks_first dim (allowed_value v) e = false
looks_first dim (agreeing u l v) e = (e.dim.0 == dim) && (e.mother.0 == u) && (e.label.0 == l) && (e.daughter.0 == v)
looks_first dim (governed u l v) e = (e.dim.0 == dim) && (e.mother.0 == u) && (e.label.0 == l) && (e.daughter.0 == v)
looks_first dim (climbing u v) e = e.dim.0 == dim
looks_first dim (not_blocked w v) e = e.dim.0 == dim
looks_first dim (linked way u l v) e = (e.dim.0 == dim) && (e.mother.0 == u) && (e.label.0 == l) && (e.daughter.0 == v)
looks_first dim (unlinked u l v) e = (e.dim.0 == dim) && (e.mother.0 == u) && (e.label.0 == l) && (e.daughter.0 == v)

-- whether an edge of the second dimension can link v to u in a way
abbrev pub can_link : Linking → ℕ → ℕ → Edge → Bool
can_link linkings.End u v e = e.daughter.0 == v
can_link linkings.Daughter u v e = (e.mother.0 == u) && (e.daughter.0 == v)
can_link linkings.Mother u v e = (e.mother.0 == v) && (e.daughter.0 == u)
can_link linkings.BelowStart u v e = true
can_link linkings.AboveStart u v e = true
can_link linkings.Sisters u v e = (e.daughter.0 == u) || (e.daughter.0 == v)

-- the edge places of the second dimension that a test looks at
abbrev pub looks_second : ℕ → Test → Edge → Bool
looks_second dim (climbing u v) e = e.dim.0 == dim
looks_second dim (not_blocked w v) e = e.dim.0 == dim
looks_second dim (linked way u l v) e = (e.dim.0 == dim) && can_link way u v e
looks_second dim (unlinked u l v) e = (e.dim.0 == dim) && (e.mother.0 == u) && (e.daughter.0 == v)
looks_second dim test e = false

-- the edge places that a test looks at
abbrev pub looks_at : Group → Test → Edge → Bool
looks_at group test e = looks_second (second_dim group) test e || looks_first (first_dim group) test e

-- the node whose entry a test looks at
abbrev pub entry_node : Test → Option ℕ
entry_node (out_count v l k) = Some v
entry_node (in_count v l k) = Some v
entry_node (one_mother v k) = None
entry_node (no_cycle k) = None
entry_node one_root = None
entry_node (one_label u v) = None
entry_node (ordered_daughters u) = None
entry_node (ordered_yields u) = None
entry_node (projective u v) = None
entry_node (allowed_value v) = Some v
entry_node (agreeing u l v) = Some u
entry_node (governed u l v) = Some u
entry_node (climbing u v) = None
entry_node (not_blocked w v) = Some w
entry_node (linked way u l v) = Some u
entry_node (unlinked u l v) = Some u

-- where the values of the attributes stand that a test looks at, among all values of attributes
abbrev pub test_attrs : Parts → Group → Test → List ℕ
test_attrs parts group (ordered_daughters u) = attr_places conditions.Order parts group (u ∷ [])
test_attrs parts group (ordered_yields u) = attr_places conditions.Order parts group (u ∷ [])
test_attrs parts group (allowed_value v) = attr_places conditions.Agr parts group (v ∷ [])
test_attrs parts group (agreeing u l v) = attr_places conditions.Agree parts group (u ∷ l ∷ v ∷ [])
test_attrs parts group (governed u l v) = attr_places conditions.Govern parts group (u ∷ l ∷ v ∷ [])
test_attrs parts group test = []

-- among the places up to k a number of edges: no more than the greatest allowed, and where k is the last node one that is allowed
abbrev pub Counts : ℕ → ℕ → List ℕ → ℕ → Type 0
Counts n k cardinality number = IsWithin cardinality number × (k + 1 ≡ n → Contains cardinality number)

-- What a test asks of the entry, as a place among the candidates, of the values that it looks at, in order, and of the edges
-- that are present at its places. Where a test asks what a condition does, it says it by that condition.
abbrev pub Passes : ℕ → Group → Test → ℕ → List ℕ → List Edge → Type 0
Passes n group (out_count v l k) candidate values edges = Counts n k (out_row group v candidate l) (length edges)
Passes n group (in_count v l k) candidate values edges = Counts n k (in_row group v candidate l) (length edges)
Passes n group (one_mother v k) candidate values edges = length edges ≤ 1
Passes n group (no_cycle k) candidate values edges = NoCycle edges
Passes n group one_root candidate values edges = length (roots n edges) ≡ 1
Passes n group (one_label u v) candidate values edges = AsksOf conditions.Pair group candidate values edges (u ∷ v ∷ [])
Passes n group (ordered_daughters u) candidate values edges = (x y : ℕ) → x < n → y < n → AsksOf conditions.Order group candidate values edges (u ∷ x ∷ y ∷ [])
Passes n group (ordered_yields u) candidate values edges = (x y : ℕ) → x < n → y < n → AsksOf conditions.Order group candidate values edges (u ∷ x ∷ y ∷ [])
Passes n group (projective u v) candidate values edges = (w : ℕ) → w < n → AsksOf conditions.Between group candidate values edges (u ∷ v ∷ w ∷ [])
Passes n group (allowed_value v) candidate values edges = AsksOf conditions.Agr group candidate values edges (v ∷ [])
Passes n group (agreeing u l v) candidate values edges = AsksOf conditions.Agree group candidate values edges (u ∷ l ∷ v ∷ [])
Passes n group (governed u l v) candidate values edges = AsksOf conditions.Govern group candidate values edges (u ∷ l ∷ v ∷ [])
Passes n group (climbing u v) candidate values edges = AsksOf conditions.Below group candidate values edges (u ∷ v ∷ [])
Passes n group (not_blocked w v) candidate values edges = AsksOf conditions.Blocked group candidate values edges (w ∷ v ∷ [])
Passes n group (linked way u l v) candidate values edges = AsksOf conditions.Link group candidate values edges (u ∷ l ∷ v ∷ [])
Passes n group (unlinked u l v) candidate values edges = AsksOf conditions.Link group candidate values edges (u ∷ l ∷ v ∷ [])

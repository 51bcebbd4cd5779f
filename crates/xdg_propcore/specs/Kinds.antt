-- The kinds of values that a box can lose: entries, and for each dimension the values of attributes and those of edge
-- places. A wake set is a number: it has the kind k where its bit k is 1.
use Rattle.std.specs.Prelude.{◌≡◌, ℕ, suc, ◌+◌, ◌*◌, ◌<◌, ◌⊎◌, true, List, [], ◌∷◌, ◌++◌, Some, length, map, slice_index}
use Rattle.std.specs.Int.{bit_at}
use Rattle.std.specs.List.{flat_map}
use Rattle.xdg_problem.specs.declared.analysis.Edge.{Edge}
use Rattle.xdg_problem.specs.declared.parts.DimPlan.{DimPlan}
use Rattle.xdg_problem.specs.declared.parts.Group.{Group}
use Rattle.xdg_problem.specs.declared.parts.Parts.{Parts}
use Rattle.xdg_problem.specs.declared.parts.Principle.{Principle}
use Rattle.xdg_problem.specs.declared.parts.Principle.TheVariants as principles
use Rattle.xdg_problem.specs.Arguments.{first_dim}
use Rattle.xdg_problem.specs.Places.{below, nodes, places}
use Rattle.xdg_problem.specs.Tests.{Test, IsTestOf, looks_at, entry_node, test_attrs}

-- entries
abbrev pub entry_kind : ℕ
entry_kind = 0

-- values of attributes on a dimension
abbrev pub attr_kind : ℕ → ℕ
attr_kind dim = 2 * dim + 1

-- values of edge places on a dimension
abbrev pub edge_kind : ℕ → ℕ
edge_kind dim = 2 * dim + 2

-- the kinds of all attributes of all nodes, from the dimension numbered dim on
abbrev pub attr_kinds : ℕ → ℕ → List DimPlan → List ℕ
attr_kinds n dim [] = []
attr_kinds n dim (plan ∷ plans) = flat_map (λ node. map (λ attr. attr_kind dim) plan.attrs) (below n) ++ attr_kinds n (suc dim) plans

-- for each decision the kind of its values
abbrev pub decision_kinds : Parts → List ℕ
decision_kinds parts =
    map (λ candidates. entry_kind) parts.candidates ++ (attr_kinds (nodes parts) 0 parts.dims ++ map (λ place. edge_kind place.dim.0) (places parts))

-- the kind of the values of a decision
abbrev pub kind_of : Parts → ℕ → ℕ
kind_of parts d = slice_index (decision_kinds parts) d

-- a test of the principle use looks at values of a kind
abbrev pub LooksAt : Parts → Group → Test → ℕ → Type 0
LooksAt parts group test kind =
    ((node : ℕ) × (entry_node test ≡ Some node) × (kind ≡ entry_kind))
    ⊎ (((0 < length (test_attrs parts group test)) × (kind ≡ attr_kind (first_dim group)))
    ⊎ ((place : Edge) × (looks_at group test place ≡ true) × (kind ≡ edge_kind place.dim.0)))

-- the tests of the principle use name a kind: one of them, in a sentence of some size, looks at values of it
pub record IsNamed (parts : Parts) (group : Group) (kind : ℕ) : Type 0 where
  pub size : ℕ
  pub labels : ℕ
  pub test : Test
  pub is : IsTestOf group.principle group.truths size labels test
  pub looks : LooksAt parts group test kind

-- the one test of a rule or a bound looks at all decisions
abbrev pub LooksAtAll : Principle → Type 0
LooksAtAll (principles.Rule formula) = Unit {0}
LooksAtAll (principles.Bound costs bound) = Unit {0}
LooksAtAll principle = ⊥

-- a wake set has only kinds that the tests of the principle use name
abbrev pub AreNamed : Parts → Group → ℕ → Type 0
AreNamed parts group wakes = (kind : ℕ) → bit_at wakes kind ≡ 1 → LooksAtAll group.principle ⊎ IsNamed parts group kind

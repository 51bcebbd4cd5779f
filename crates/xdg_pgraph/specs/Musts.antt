-- Rules that go by the edges that must be present.
use Rattle.std.specs.Prelude.{◌≡◌, ◌<◌, ◌⊎◌, ℕ, Bool, true, List, Contains}
use Rattle.xdg_problem.specs.declared.parts.Group.{Group}
use Rattle.xdg_problem.specs.declared.parts.Parts.{Parts}
use Rattle.xdg_problem.specs.declared.parts.Principle.{Principle}
use Rattle.xdg_problem.specs.declared.parts.Principle.TheVariants as principles
use Rattle.xdg_problem.specs.Arguments.{first_dim, truth_of}
use Rattle.xdg_problem.specs.Boxes.{Has, Must}
use Rattle.xdg_problem.specs.Places.{nodes}
use Rattle.xdg_problem.specs.Problems.{IsGroup}
use Rattle.xdg_rules.specs.Rules.{Takes, OneMother, NoCycle, OneLabel, may_edges}
use Rattle.xdg_store.specs.States.{State}
use Rattle.xdg_propcore.specs.Passes.{Progress}
use Rattle.xdg_store.specs.declared.decision.Decision.{Decision}
use Rattle.xdg_store.specs.declared.decision.Decision.TheVariants as decisions
use Rattle.xdg_pgraph.specs.Entering.{Enters}
use Rattle.xdg_pgraph.specs.Ruling.{ForOthers, ForRoot, OthersIf, Runs}
use Rattle.xdg_pgraph.specs.Seeking.{NoneOnly}
use Rattle.xdg_facts.specs.Rises.{has}

-- the decision is one on an edge of the dimension that must be present
abbrev pub IsMustOn : Parts → List (List Bool) → ℕ → Decision → Type 0
IsMustOn parts box dim (decisions.Entry node) = ⊥
IsMustOn parts box dim (decisions.Attr d node attr) = ⊥
IsMustOn parts box dim (decisions.Place e) = (e.dim.0 ≡ dim) × Must parts box e

-- what a principle use takes by the edges that must be
abbrev pub ByMusts : Principle → Parts → Group → List (List Bool) → ℕ → ℕ → Type 0
ByMusts principles.Tree parts group box d v = OneMother parts group box d v ⊎ (ForRoot parts group box d v ⊎ NoCycle parts group box d v)
ByMusts principles.Dag parts group box d v =
    NoCycle parts group box d v
    ⊎ (((truth_of group.truths 0 ≡ true) × ForRoot parts group box d v) ⊎ ((truth_of group.truths 1 ≡ true) × OneLabel parts group box d v))
ByMusts principle parts group box d v = ⊥

-- of that nothing is left to take
abbrev pub AreMustsDone : Parts → Group → List (List Bool) → Type 0
AreMustsDone parts group box = (d v : ℕ) → Has box d v → ByMusts group.principle parts group box d v → ⊥

-- ---- the daughters of lost edges

-- the daughter of a decision on an edge of the dimension is among some nodes
abbrev pub HasDaughter : ℕ → List ℕ → Decision → Type 0
HasDaughter dim daughters (decisions.Entry node) = Unit {0}
HasDaughter dim daughters (decisions.Attr d node attr) = Unit {0}
HasDaughter dim daughters (decisions.Place e) = e.dim.0 ≡ dim → has daughters e.daughter.0 ≡ true

-- and its edge needs not be present
abbrev pub IsLost : Parts → List (List Bool) → ℕ → List ℕ → Decision → Type 0
IsLost parts box dim daughters d = (IsMustOn parts box dim d → ⊥) × HasDaughter dim daughters d

-- into the node edges may lead, and none that may is the only one and may be absent
pub record IsSettled (parts : Parts) (box : List (List Bool)) (dim w : ℕ) : Type 0 where
  pub entered : Enters (Contains (may_edges parts box dim)) w
  pub none : NoneOnly parts box dim w

-- where each of some nodes is settled, what goes by the edges that may be takes nothing that remains
abbrev pub RestsBut : List ℕ → Parts → Group → List (List Bool) → Type 0
RestsBut daughters parts group box =
    ((w : ℕ) → w < nodes parts → has daughters w ≡ true → IsSettled parts box (first_dim group) w) → (d v : ℕ) → Has box d v → ForOthers parts group box d v → ⊥

-- if the principle use takes it
abbrev pub RestsIf : List ℕ → Parts → Group → List (List Bool) → Type 0
RestsIf daughters parts group box =
    ((box : List (List Bool)) (d v : ℕ) → ForOthers parts group box d v → Takes parts group box d v) → RestsBut daughters parts group box

-- a part of a step for the rules that go by the edges that may be, where they are asked for and only some nodes need be looked at
abbrev pub RunsBut : List ℕ → Bool → ℕ → Progress → State → Progress → State → Type 0
RunsBut daughters wanted dim p old q new =
    (group : Group) → IsGroup old.parts group → first_dim group ≡ dim
    → ((box : List (List Bool)) (d v : ℕ) → OthersIf wanted old.parts group box d v → Takes old.parts group box d v)
    → RestsIf daughters old.parts group old.now
    → Runs (OthersIf wanted old.parts group) group p old q new

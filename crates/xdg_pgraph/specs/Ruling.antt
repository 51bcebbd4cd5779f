-- What a part of a step does for a rule.
use Rattle.std.specs.Prelude.{◌≡◌, ◌⊎◌, ℕ, Bool, true, List}
use Rattle.xdg_problem.specs.declared.parts.Group.{Group}
use Rattle.xdg_problem.specs.declared.parts.Parts.{Parts}
use Rattle.xdg_problem.specs.declared.analysis.Edge.{Edge}
use Rattle.xdg_problem.specs.declared.parts.Principle.TheVariants as principles
use Rattle.xdg_problem.specs.Arguments.{first_dim}
use Rattle.xdg_problem.specs.Boxes.{Has}
use Rattle.xdg_problem.specs.Problems.{IsGroup}
use Rattle.xdg_rules.specs.Rules.{Takes, TakesBy, TakesForRoot, NoCycle, OneLabel, RootFound, HasNoRoot, OnlyMother, HasTwoRoots}
use Rattle.xdg_store.specs.States.{State}
use Rattle.xdg_propcore.specs.Passes.{Progress, Goes, IsQuiet}

-- it is a part of a step for the principle use, and where nothing was taken the rule takes nothing that remains
pub record Runs (Taken : List (List Bool) → ℕ → ℕ → Type 0) (group : Group) (p : Progress) (old : State) (q : Progress) (new : State) : Type 0 where
  pub goes : Goes group p old q new
  pub done : IsQuiet q → (d v : ℕ) → Taken new.now d v → Has new.now d v → ⊥

-- it is so for each principle use on the dimension that takes what the rule takes
abbrev pub RunsFor : (Parts → Group → List (List Bool) → ℕ → ℕ → Type 0) → ℕ → Progress → State → Progress → State → Type 0
RunsFor TakesRule dim p old q new =
    (group : Group) → IsGroup old.parts group → first_dim group ≡ dim
    → ((box : List (List Bool)) (d v : ℕ) → TakesRule old.parts group box d v → Takes old.parts group box d v)
    → Runs (TakesRule old.parts group) group p old q new

-- what is taken for a root: where there is one alone without an edge that must lead into it, and where there is none
abbrev pub ForRoot : Parts → Group → List (List Bool) → ℕ → ℕ → Type 0
ForRoot parts group box d v = RootFound parts group box d v ⊎ HasNoRoot parts group box

-- what is taken for the other nodes: where there is a root already, and where there are two
abbrev pub ForOthers : Parts → Group → List (List Bool) → ℕ → ℕ → Type 0
ForOthers parts group box d v = OnlyMother parts group box d v ⊎ HasTwoRoots parts group box

-- the rule of labels, for some edges
pub record OneLabelOf (P : Edge → Type 0) (parts : Parts) (group : Group) (box : List (List Bool)) (d v : ℕ) : Type 0 where
  pub rule : OneLabel parts group box d v
  pub of : P rule.place

-- what the rules of a tree take
abbrev pub ByTree : Parts → Group → List (List Bool) → ℕ → ℕ → Type 0
ByTree parts group box d v = TakesBy principles.Tree parts group box d v

-- the rules of the root, where they are asked for
abbrev pub RootIf : Bool → Parts → Group → List (List Bool) → ℕ → ℕ → Type 0
RootIf wanted parts group box d v = (wanted ≡ true) × TakesForRoot parts group box d v

-- the rules that go by the edges that may be, where they are asked for
abbrev pub OthersIf : Bool → Parts → Group → List (List Bool) → ℕ → ℕ → Type 0
OthersIf wanted parts group box d v = (wanted ≡ true) × ForOthers parts group box d v

-- the rule of labels, where it is asked for
abbrev pub LabelIf : Bool → Parts → Group → List (List Bool) → ℕ → ℕ → Type 0
LabelIf wanted parts group box d v = (wanted ≡ true) × OneLabel parts group box d v

-- what the rules of a dag take, which may ask for one root and for one label
abbrev pub ByDag : Bool → Bool → Parts → Group → List (List Bool) → ℕ → ℕ → Type 0
ByDag rooted disjoint parts group box d v = NoCycle parts group box d v ⊎ (RootIf rooted parts group box d v ⊎ LabelIf disjoint parts group box d v)

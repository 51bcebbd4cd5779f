-- The conditions of each principle, in their order, and the tuples of which each condition speaks.
use Rattle.std.specs.Prelude.{◌≡◌, ℕ, ◌<◌, List, [], ◌∷◌, length, map}
use Rattle.xdg_problem.specs.declared.analysis.Edge.{Edge}
use Rattle.xdg_problem.specs.declared.conditions.Condition.{Condition}
use Rattle.xdg_problem.specs.declared.conditions.Condition.TheVariants as conditions
use Rattle.xdg_problem.specs.declared.parts.Group.{Group}
use Rattle.xdg_problem.specs.declared.parts.Parts.{Parts}
use Rattle.xdg_problem.specs.Places.{nodes}
use Rattle.xdg_problem.specs.Paths.{edges_on, roots}
use Rattle.xdg_problem.specs.Arguments.{first_dim, label_count}
use Rattle.xdg_problem.specs.Principles.{conditions_for}

-- the conditions of a principle use
abbrev pub conditions_of : Group → List Condition
conditions_of group = conditions_for group.principle group.truths

-- one number for each size, and below it
abbrev pub AreBelow : List ℕ → List ℕ → Type 0
AreBelow [] [] = Unit {0}
AreBelow [] (number ∷ numbers) = ⊥
AreBelow (size ∷ sizes) [] = ⊥
AreBelow (size ∷ sizes) (number ∷ numbers) = (number < size) × AreBelow sizes numbers

-- how many nodes of the sentence no edge of the first dimension enters
abbrev pub root_count : Parts → Group → List Edge → ℕ
root_count parts group edges = length (roots (nodes parts) (edges_on (first_dim group) edges))

-- an item of a tuple: a node, or a label of the first dimension
pub data Item : Type 0 where
  node : Item
  label : Item

-- the items of the tuples of which a condition speaks, in order
abbrev pub items_of : Condition → List Item
items_of conditions.Cycle = node ∷ []
items_of conditions.Mothers = node ∷ []
items_of conditions.Pair = node ∷ node ∷ []
items_of conditions.InCount = node ∷ label ∷ []
items_of conditions.OutCount = node ∷ label ∷ []
items_of conditions.Order = node ∷ node ∷ node ∷ []
items_of conditions.Between = node ∷ node ∷ node ∷ []
items_of conditions.Agr = node ∷ []
items_of conditions.Agree = node ∷ label ∷ node ∷ []
items_of conditions.Govern = node ∷ label ∷ node ∷ []
items_of conditions.Below = node ∷ node ∷ []
items_of conditions.Blocked = node ∷ node ∷ []
items_of conditions.Link = node ∷ label ∷ node ∷ []
items_of condition = []

-- how many nodes or labels there are
abbrev pub item_count : Parts → Group → Item → ℕ
item_count parts group node = nodes parts
item_count parts group label = label_count parts (first_dim group)

-- The tuples in the range of a condition: all nodes and labels at the places where it speaks of them. Roots has one tuple, the number of
-- nodes without mother, and a rule and a bound have the empty one.
abbrev pub IsTuple : Condition → Parts → Group → List Edge → List ℕ → Type 0
IsTuple conditions.Roots parts group edges tuple = tuple ≡ root_count parts group edges ∷ []
IsTuple conditions.Rule parts group edges tuple = tuple ≡ []
IsTuple conditions.Bound parts group edges tuple = tuple ≡ []
IsTuple condition parts group edges tuple = AreBelow (map (item_count parts group) (items_of condition)) tuple

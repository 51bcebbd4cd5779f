-- What each condition asks of one tuple.
use Rattle.std.specs.Prelude.{◌≡◌, ℕ, ◌<◌, ◌≤◌, ◌⊎◌, true, List, [], ◌∷◌, length, map, slice_index, Contains, AllPairs, Option, None, Some}
use Rattle.xdg_problem.specs.declared.analysis.Edge.{Edge}
use Rattle.xdg_problem.specs.declared.conditions.Condition.{Condition}
use Rattle.xdg_problem.specs.declared.conditions.Condition.TheVariants as conditions
use Rattle.xdg_problem.specs.declared.parts.Group.{Group}
use Rattle.xdg_problem.specs.declared.parts.Linking.{Linking}
use Rattle.xdg_problem.specs.declared.parts.Linking.TheVariants as linkings
use Rattle.xdg_problem.specs.declared.parts.Parts.{Parts}
use Rattle.xdg_problem.specs.declared.parts.Principle.{Principle}
use Rattle.xdg_problem.specs.declared.parts.Principle.TheVariants as principles
use Rattle.xdg_problem.specs.Principles.{linking_of}
use Rattle.xdg_problem.specs.Paths.{edges_on, edges_into, edges_out_of, edges_joining, mothers, IsDaughter, IsDaughterBy, IsDaughterByAny, IsEnteredByAny, AreSistersByAny, Above, AboveByFirst, AboveByLast}
use Rattle.xdg_problem.specs.Features.{in_row, out_row, set_row, map_row}
use Rattle.xdg_problem.specs.Arguments.{first_dim, second_dim, attr_of, order_of, truth_of, attr_place}
use Rattle.xdg_problem.specs.Vectors.{entries_at}
use Rattle.xdg_problem.specs.Claims.{claim}
use Rattle.xdg_problem.specs.Truths.{unbound, IsTrueOf}
use Rattle.xdg_problem.specs.Costs.{total_cost}

-- the items of a tuple
abbrev pub first : List ℕ → ℕ
first tuple = slice_index tuple 0

abbrev pub second : List ℕ → ℕ
second tuple = slice_index tuple 1

abbrev pub third : List ℕ → ℕ
third tuple = slice_index tuple 2

-- w stands strictly between two nodes
abbrev pub IsBetween : ℕ → ℕ → ℕ → Type 0
IsBetween u v w = ((u < w) × (w < v)) ⊎ ((v < w) × (w < u))

-- x stands in an item of u that has a label: u itself has its own label, each daughter that of its edge, and where
-- daughters take their yields along, each node below a daughter stands in the daughter's item
abbrev pub IsInItem : List Edge → Type 0 → ℕ → ℕ → ℕ → ℕ → Type 0
IsInItem edges yields own u label x =
    ((label ≡ own) × (x ≡ u)) ⊎ (IsDaughterBy edges u label x ⊎ (yields × ((v : ℕ) × IsDaughterBy edges u label v × Above edges v x)))

-- what linking asks of a daughter v of u on the first dimension, by edges of the second, with one of some labels
abbrev pub IsLinked : Linking → List Edge → ℕ → List ℕ → ℕ → Type 0
-- an edge with one of them leads into v
IsLinked linkings.End edges u labels v = IsEnteredByAny edges labels v
-- v is a daughter of u
IsLinked linkings.Daughter edges u labels v = IsDaughterByAny edges u labels v
-- v is a mother of u
IsLinked linkings.Mother edges u labels v = IsDaughterByAny edges v labels u
-- a path from u to v starts with one of them
IsLinked linkings.BelowStart edges u labels v = AboveByFirst edges u labels v
-- a path from v to u starts with one of them
IsLinked linkings.AboveStart edges u labels v = AboveByFirst edges v labels u
-- u and v have a mother in common, v with one of them
IsLinked linkings.Sisters edges u labels v = AreSistersByAny edges u labels v

-- what a principle asks that links in a way, with these labels: without labels it asks nothing
abbrev pub AsksBy : Option Linking → List Edge → ℕ → List ℕ → ℕ → Type 0
AsksBy None edges u labels v = Unit {0}
AsksBy (Some way) edges u labels v = 0 < length labels → IsLinked way edges u labels v

-- what the condition Link asks where u -l-> v on the first dimension
abbrev pub AsksLink : Principle → Group → ℕ → List Edge → ℕ → ℕ → ℕ → Type 0
AsksLink principles.LinkingNotDaughter group candidate edges u l v = Contains (set_row group u candidate) l → IsDaughter edges u v → ⊥
AsksLink principle group candidate edges u l v = AsksBy (linking_of principle) edges u (map_row group u candidate l) v

-- What a condition asks of the items of a tuple, in their order: of the candidate that the first node has, the values of the
-- attributes that the condition names, in order, and the edges of the first and of the second dimension.
abbrev pub AsksOfItems : Condition → Group → ℕ → List ℕ → List Edge → List Edge → ℕ → ℕ → ℕ → Type 0
-- v is not above itself
AsksOfItems conditions.Cycle group candidate values edges others v _ _ = Above edges v v → ⊥
-- the number of nodes without mother is 1
AsksOfItems conditions.Roots group candidate values edges others count _ _ = count ≡ 1
-- at most one edge leads into v
AsksOfItems conditions.Mothers group candidate values edges others v _ _ = mothers edges v ≤ 1
-- at most one edge joins u to v, so at most one label does
AsksOfItems conditions.Pair group candidate values edges others u v _ = edges_joining edges u v ≤ 1
-- the number of edges with label l into v is one that In has for v at l
AsksOfItems conditions.InCount group candidate values edges others v l _ = Contains (in_row group v candidate l) (edges_into edges v l)
-- the number of edges with label l out of v is one that Out has for v at l
AsksOfItems conditions.OutCount group candidate values edges others v l _ = Contains (out_row group v candidate l) (edges_out_of edges v l)
-- for each two labels in the order: where x stands in an item of u with the earlier and y in one with the later, x stands to the left of y
AsksOfItems conditions.Order group candidate values edges others u x y =
    AllPairs
    (λ earlier later. IsInItem edges (truth_of group.truths 0 ≡ true) (slice_index values 0) u earlier x
    → IsInItem edges (truth_of group.truths 0 ≡ true) (slice_index values 0) u later y
    → x < y)
    (order_of group)
-- where v is a daughter of u, and w stands between them, u is above w
AsksOfItems conditions.Between group candidate values edges others u v w = IsDaughter edges u v → IsBetween u v w → Above edges u w
-- the value of v's Agr is in v's Agrs
AsksOfItems conditions.Agr group candidate values edges others v _ _ = Contains (set_row group v candidate) (slice_index values 0)
-- where u -l-> v and l is in u's Agree, the value of u's Agr1 is that of v's Agr2
AsksOfItems conditions.Agree group candidate values edges others u l v =
    IsDaughterBy edges u l v → Contains (set_row group u candidate) l → slice_index values 0 ≡ slice_index values 1
-- where u -l-> v and u's Govern at l isn't empty, the value of v's Agr is in it
AsksOfItems conditions.Govern group candidate values edges others u l v =
    IsDaughterBy edges u l v → 0 < length (map_row group u candidate l) → Contains (map_row group u candidate l) (slice_index values 0)
-- where u is above v on the first dimension, it is on the second
AsksOfItems conditions.Below group candidate values edges others u v _ = Above edges u v → Above others u v
-- where a path on the second dimension leads from w to v and its last label is in w's Blocks, w is above v on the first
AsksOfItems conditions.Blocked group candidate values edges others w v _ = AboveByLast others w (set_row group w candidate) v → Above edges w v
-- where u -l-> v on the first dimension, v is linked to u by edges of the second as the principle says
AsksOfItems conditions.Link group candidate values edges others u l v = IsDaughterBy edges u l v → AsksLink group.principle group candidate others u l v
-- a rule and a bound ask nothing of what is read here, but of all decisions
AsksOfItems conditions.Rule group candidate values edges others _ _ _ = Unit {0}
AsksOfItems conditions.Bound group candidate values edges others _ _ _ = Unit {0}

-- what a condition asks of a tuple, by all edges
abbrev pub AsksOf : Condition → Group → ℕ → List ℕ → List Edge → List ℕ → Type 0
AsksOf condition group candidate values edges tuple =
    AsksOfItems condition group candidate values (edges_on (first_dim group) edges) (edges_on (second_dim group) edges)
    (first tuple) (second tuple) (third tuple)

-- What a rule or a bound asks of all decisions together: of the entries as places among the candidates, the values of attributes
-- and the edges. No other principle asks anything there.
abbrev pub AsksWhole : Principle → Parts → List ℕ → List ℕ → List Edge → Type 0
-- the formula is true
AsksWhole (principles.Rule formula) parts candidates attrs edges = IsTrueOf parts candidates attrs edges (claim formula) unbound
-- the entries and the edges cost less than the bound
AsksWhole (principles.Bound costs bound) parts candidates attrs edges = total_cost costs (entries_at parts.candidates candidates) edges < bound
AsksWhole principle parts candidates attrs edges = Unit {0}

-- where the attributes stand that a condition names: On of u; Agr of v; Agr1 of u and Agr2 of v; Agr of v
abbrev pub attr_places : Condition → Parts → Group → List ℕ → List ℕ
attr_places conditions.Order parts group tuple = attr_place parts (first_dim group) (first tuple) (attr_of group 0) ∷ []
attr_places conditions.Agr parts group tuple = attr_place parts (first_dim group) (first tuple) (attr_of group 0) ∷ []
attr_places conditions.Agree parts group tuple =
    attr_place parts (first_dim group) (first tuple) (attr_of group 0) ∷ attr_place parts (first_dim group) (third tuple) (attr_of group 1) ∷ []
attr_places conditions.Govern parts group tuple = attr_place parts (first_dim group) (third tuple) (attr_of group 0) ∷ []
attr_places condition parts group tuple = []

-- What a condition asks of a tuple of an analysis: of the entries as places among the candidates, the values of attributes
-- and the edges.
abbrev pub Asks : Condition → Parts → Group → List ℕ → List ℕ → List Edge → List ℕ → Type 0
Asks conditions.Rule parts group candidates attrs edges tuple = AsksWhole group.principle parts candidates attrs edges
Asks conditions.Bound parts group candidates attrs edges tuple = AsksWhole group.principle parts candidates attrs edges
Asks condition parts group candidates attrs edges tuple =
    AsksOf condition group (slice_index candidates (first tuple)) (map (slice_index attrs) (attr_places condition parts group tuple)) edges tuple

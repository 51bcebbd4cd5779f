-- Rules on boxes: which values a principle use takes away from a box. What they take stands in no analysis of the box that
-- satisfies the principle use.
use Rattle.std.specs.Prelude.{◌≡◌, ◌≢◌, ℕ, suc, ◌+◌, ◌<◌, ◌≤◌, ◌⊎◌, ◌&&◌, Bool, true, false, List, [], ◌∷◌, length, map, filter, Option, Some, None, Contains, All, slice_index_or}
use Rattle.xdg_problem.specs.declared.analysis.Edge.{Edge}
use Rattle.xdg_problem.specs.declared.parts.Group.{Group}
use Rattle.xdg_problem.specs.declared.parts.Linking.{Linking}
use Rattle.xdg_problem.specs.declared.parts.Parts.{Parts}
use Rattle.xdg_problem.specs.declared.parts.Principle.{Principle}
use Rattle.xdg_problem.specs.declared.parts.Principle.TheVariants as principles
use Rattle.xdg_problem.specs.Arguments.{first_dim, second_dim, label_count, attr_of, order_of, truth_of}
use Rattle.xdg_problem.specs.Asking.{IsBetween, IsLinked}
use Rattle.xdg_problem.specs.Boxes.{Has, IsOnly, entry_decision, attr_decision, edge_decision}
use Rattle.xdg_problem.specs.Features.{in_row, out_row, set_row, map_row}
use Rattle.xdg_problem.specs.Paths.{edges_into, edges_out_of, mothers, roots, Above}
use Rattle.xdg_problem.specs.Places.{nodes, places}
use Rattle.xdg_problem.specs.Principles.{linking_of}
use Rattle.xdg_problem.specs.Tests.{Test, IsTest, looks_at, entry_node, test_attrs, Passes}
pub use Rattle.xdg_rules.specs.Remaining.{has, may_edges, must_edges, IsPlaceOn, SaysPresent, SaysAbsent, EachEntry}
use Rattle.xdg_rules.specs.Worths.{RuleFalse}
use Rattle.xdg_rules.specs.Bounds.{BoundReached, BoundPlace}

-- ---- decisions that have one value each

-- the decision has one value
abbrev pub IsDecided : List (List Bool) → ℕ → Type 0
IsDecided box d = (v : ℕ) × Has box d v × IsOnly box d v

-- the first value that remains, and behind all values where none does
abbrev pub first_true : List Bool → ℕ
first_true [] = 0
first_true (true ∷ flags) = 0
first_true (false ∷ flags) = suc (first_true flags)

-- the value of a decision that has one
abbrev pub value_in : List (List Bool) → ℕ → ℕ
value_in box d = first_true (slice_index_or box d [])

-- the entry of the node that a test looks at, if it looks at one, has one value
abbrev pub EntryDecided : List (List Bool) → Option ℕ → Type 0
EntryDecided box None = Unit {0}
EntryDecided box (Some node) = IsDecided box (entry_decision node)

-- the value of that entry
abbrev pub entry_value : List (List Bool) → Option ℕ → ℕ
entry_value box None = 0
entry_value box (Some node) = value_in box (entry_decision node)

-- ---- words of the rules

-- no number of the cardinality lies between the two
abbrev pub HasNoneWithin : List ℕ → ℕ → ℕ → Type 0
HasNoneWithin cardinality least most = (k : ℕ) → Contains cardinality k → least ≤ k → k ≤ most → ⊥

-- the number is the greatest that a remaining entry of the node allows
pub record IsGreatest (box : List (List Bool)) (node : ℕ) (row : ℕ → List ℕ) (number : ℕ) : Type 0 where
  pub entry : ℕ
  pub remains : Has box (entry_decision node) entry
  pub allowed : Contains (row entry) number
  pub most : EachEntry box node (λ c. All (λ k. k ≤ number) (row c))

-- the number is the least that a remaining entry of the node allows
pub record IsLeast (box : List (List Bool)) (node : ℕ) (row : ℕ → List ℕ) (number : ℕ) : Type 0 where
  pub entry : ℕ
  pub remains : Has box (entry_decision node) entry
  pub allowed : Contains (row entry) number
  pub least : EachEntry box node (λ c. All (λ k. number ≤ k) (row c))

-- the decision of an attribute argument of a node
abbrev pub attr_of_node : Parts → Group → ℕ → ℕ → ℕ
attr_of_node parts group argument node = attr_decision parts (first_dim group) node (attr_of group argument)

-- each remaining entry of the mother asks for agreement at the label of the edge
abbrev pub AsksAgreement : Group → List (List Bool) → Edge → Type 0
AsksAgreement group box place = EachEntry box place.mother.0 (λ c. Contains (set_row group place.mother.0 c) place.label.0)

-- each remaining entry of the mother governs at the label of the edge
abbrev pub Governs : Group → List (List Bool) → Edge → Type 0
Governs group box place = EachEntry box place.mother.0 (λ c. 0 < length (map_row group place.mother.0 c place.label.0))

-- a label stands before another in the order
abbrev pub ComesBefore : List ℕ → ℕ → ℕ → Type 0
ComesBefore [] l m = ⊥
ComesBefore (label ∷ order) l m = ((label ≡ l) × Contains order m) ⊎ ComesBefore order l m

-- under its own label x the mother of an edge stands on the wrong side of the daughter
abbrev pub HeadOffends : Group → ℕ → Edge → Type 0
HeadOffends group x place =
    (ComesBefore (order_of group) place.label.0 x × (place.mother.0 < place.daughter.0))
    ⊎ (ComesBefore (order_of group) x place.label.0 × (place.daughter.0 < place.mother.0))

-- ---- the rules, each on a principle use and a box

module _ (parts : Parts) (group : Group) (box : List (List Bool)) where
  -- the edges of the first and of the second dimension that may be present, and those that must be
  abbrev may_first : List Edge
  may_first = may_edges parts box (first_dim group)

  abbrev must_first : List Edge
  must_first = must_edges parts box (first_dim group)

  abbrev may_second : List Edge
  may_second = may_edges parts box (second_dim group)

  abbrev must_second : List Edge
  must_second = must_edges parts box (second_dim group)

  -- ---- tests whose decisions have one value each

  -- the decisions that a test looks at have one value each
  pub record TestDecided (test : Test) : Type 0 where
    pub entry : EntryDecided box (entry_node test)
    pub attrs : All (λ place. IsDecided box (length parts.candidates + place)) (test_attrs parts group test)
    pub edges : All (λ e. looks_at group test e ≡ true → IsDecided box (edge_decision parts e)) (places parts)

  -- what the test asks, of these values
  abbrev pub TestPasses : Test → Type 0
  TestPasses test =
      Passes (nodes parts) group test (entry_value box (entry_node test))
      (map (λ place. value_in box (length parts.candidates + place)) (test_attrs parts group test))
      (filter (λ e. looks_at group test e && has box (edge_decision parts e) 0) (places parts))

  -- a test is decided and fails
  pub record FailsTest : Type 0 where
    pub test : Test
    pub is : IsTest parts group test
    pub decided : TestDecided test
    pub fails : TestPasses test → ⊥

  -- ---- valency

  -- an entry of a node: no number of edges between those that must be and those that may be is in its cardinality
  pub record ValencyEntry (d v : ℕ) : Type 0 where
    pub node : ℕ
    pub within : node < nodes parts
    pub label : ℕ
    pub known : label < label_count parts (first_dim group)
    pub is : d ≡ entry_decision node
    pub none :
        HasNoneWithin (out_row group node v label) (edges_out_of must_first node label) (edges_out_of may_first node label)
        ⊎ HasNoneWithin (in_row group node v label) (edges_into must_first node label) (edges_into may_first node label)

  -- a further edge: as many as the entries of its node allow at most must be
  pub record ValencyFull (d v : ℕ) : Type 0 where
    pub place : Edge
    pub is : IsPlaceOn parts (first_dim group) place
    pub says : SaysPresent parts place d v
    pub free : Contains must_first place → ⊥
    pub full :
        IsGreatest box place.mother.0 (λ c. out_row group place.mother.0 c place.label.0) (edges_out_of must_first place.mother.0 place.label.0)
        ⊎ IsGreatest box place.daughter.0 (λ c. in_row group place.daughter.0 c place.label.0) (edges_into must_first place.daughter.0 place.label.0)

  -- the absence of an edge: only as many as the entries of its node want at least may be
  pub record ValencyNeeded (d v : ℕ) : Type 0 where
    pub place : Edge
    pub may : Contains may_first place
    pub says : SaysAbsent parts place d v
    pub needed :
        IsLeast box place.mother.0 (λ c. out_row group place.mother.0 c place.label.0) (edges_out_of may_first place.mother.0 place.label.0)
        ⊎ IsLeast box place.daughter.0 (λ c. in_row group place.daughter.0 c place.label.0) (edges_into may_first place.daughter.0 place.label.0)

  -- ---- tree and dag

  -- a second edge into a node: another one into it must be
  pub record OneMother (d v : ℕ) : Type 0 where
    pub place : Edge
    pub is : IsPlaceOn parts (first_dim group) place
    pub says : SaysPresent parts place d v
    pub other : Edge
    pub must : Contains must_first other
    pub differs : place ≢ other
    pub both : place.daughter.0 ≡ other.daughter.0

  -- an edge into the one node into which no edge must be
  pub record RootFound (d v : ℕ) : Type 0 where
    pub place : Edge
    pub is : IsPlaceOn parts (first_dim group) place
    pub says : SaysPresent parts place d v
    pub root : roots (nodes parts) must_first ≡ place.daughter.0 ∷ []

  -- into each node an edge must be
  abbrev pub HasNoRoot : Type 0
  HasNoRoot = roots (nodes parts) must_first ≡ []

  -- the absence of the only edge that may lead into a node, where into another node none may
  pub record OnlyMother (d v : ℕ) : Type 0 where
    pub place : Edge
    pub may : Contains may_first place
    pub says : SaysAbsent parts place d v
    pub only : mothers may_first place.daughter.0 ≡ 1
    pub other : ℕ
    pub root : Contains (roots (nodes parts) may_first) other

  -- into two nodes no edge may lead
  abbrev pub HasTwoRoots : Type 0
  HasTwoRoots = 2 ≤ length (roots (nodes parts) may_first)

  -- an edge from u to v, where v is above u by edges that must be
  pub record NoCycle (d v : ℕ) : Type 0 where
    pub place : Edge
    pub is : IsPlaceOn parts (first_dim group) place
    pub says : SaysPresent parts place d v
    pub back : Above must_first place.daughter.0 place.mother.0

  -- an edge between two nodes, where another with its own label must be
  pub record OneLabel (d v : ℕ) : Type 0 where
    pub place : Edge
    pub is : IsPlaceOn parts (first_dim group) place
    pub says : SaysPresent parts place d v
    pub other : Edge
    pub must : Contains must_first other
    pub differs : place ≢ other
    pub mother : place.mother.0 ≡ other.mother.0
    pub daughter : place.daughter.0 ≡ other.daughter.0

  -- ---- attributes

  -- a value of Agr that the set of no remaining entry has, or an entry whose set has no remaining value
  pub record AgrValues (d v : ℕ) : Type 0 where
    pub node : ℕ
    pub within : node < nodes parts
    pub lacks :
        ((d ≡ attr_of_node parts group 0 node) × EachEntry box node (λ c. Contains (set_row group node c) v → ⊥))
        ⊎ ((d ≡ entry_decision node) × ((x : ℕ) → Has box (attr_of_node parts group 0 node) x → Contains (set_row group node v) x → ⊥))

  -- an edge whose two ends have no value in common, or a value that the other end of an edge that must be hasn't
  pub record AgreementValues (d v : ℕ) : Type 0 where
    pub place : Edge
    pub is : IsPlaceOn parts (first_dim group) place
    pub asks : AsksAgreement group box place
    pub lacks :
        (SaysPresent parts place d v
        × ((x : ℕ) → Has box (attr_of_node parts group 0 place.mother.0) x → Has box (attr_of_node parts group 1 place.daughter.0) x → ⊥))
        ⊎ (Contains must_first place
        × (((d ≡ attr_of_node parts group 0 place.mother.0) × (Has box (attr_of_node parts group 1 place.daughter.0) v → ⊥))
        ⊎ ((d ≡ attr_of_node parts group 1 place.daughter.0) × (Has box (attr_of_node parts group 0 place.mother.0) v → ⊥))))

  -- an edge for which no set has a remaining value of the daughter, or a value in none of the sets where the edge must be
  pub record GovernmentValues (d v : ℕ) : Type 0 where
    pub place : Edge
    pub is : IsPlaceOn parts (first_dim group) place
    pub governs : Governs group box place
    pub lacks :
        (SaysPresent parts place d v
        × EachEntry box place.mother.0
        (λ c. (x : ℕ) → Has box (attr_of_node parts group 0 place.daughter.0) x → Contains (map_row group place.mother.0 c place.label.0) x → ⊥))
        ⊎ (Contains must_first place
        × (d ≡ attr_of_node parts group 0 place.daughter.0)
        × EachEntry box place.mother.0 (λ c. Contains (map_row group place.mother.0 c place.label.0) v → ⊥))

  -- ---- order and projectivity

  -- an edge to a daughter that stands on the wrong side of another, whose edge must be, or where that one stands
  pub record DaughterOrder (d v : ℕ) : Type 0 where
    pub place : Edge
    pub is : IsPlaceOn parts (first_dim group) place
    pub says : SaysPresent parts place d v
    pub other : Edge
    pub must : Contains must_first other
    pub mother : place.mother.0 ≡ other.mother.0
    pub wrong :
        (ComesBefore (order_of group) other.label.0 place.label.0 × (place.daughter.0 ≤ other.daughter.0))
        ⊎ (ComesBefore (order_of group) place.label.0 other.label.0 × (other.daughter.0 ≤ place.daughter.0))

  -- an edge of a mother that has one own label left, and stands on the wrong side
  pub record AboutHead (d v : ℕ) : Type 0 where
    pub place : Edge
    pub is : IsPlaceOn parts (first_dim group) place
    pub says : SaysPresent parts place d v
    pub own : ℕ
    pub remains : Has box (attr_of_node parts group 0 place.mother.0) own
    pub only : IsOnly box (attr_of_node parts group 0 place.mother.0) own
    pub offends : HeadOffends group own place

  -- an own label of a mother, under which it stands on the wrong side of a daughter whose edge must be
  pub record OfHead (d v : ℕ) : Type 0 where
    pub place : Edge
    pub must : Contains must_first place
    pub is : d ≡ attr_of_node parts group 0 place.mother.0
    pub offends : HeadOffends group v place

  -- an edge across a node that can't be below its mother
  pub record ProjectivityReach (d v : ℕ) : Type 0 where
    pub place : Edge
    pub is : IsPlaceOn parts (first_dim group) place
    pub says : SaysPresent parts place d v
    pub node : ℕ
    pub within : node < nodes parts
    pub between : IsBetween place.mother.0 place.daughter.0 node
    pub apart : Above may_first place.mother.0 node → ⊥

  -- ---- two dimensions

  -- an edge of the first dimension, whose daughter can't be below its mother on the second
  pub record ClimbingReach (d v : ℕ) : Type 0 where
    pub place : Edge
    pub is : IsPlaceOn parts (first_dim group) place
    pub says : SaysPresent parts place d v
    pub apart : Above may_second place.mother.0 place.daughter.0 → ⊥

  -- an edge of the second dimension, whose label a node blocks that is its mother or must be above it, and under which its
  -- daughter can't be on the first dimension
  pub record BarriersReach (d v : ℕ) : Type 0 where
    pub place : Edge
    pub is : IsPlaceOn parts (second_dim group) place
    pub says : SaysPresent parts place d v
    pub barrier : ℕ
    pub above : (barrier ≡ place.mother.0) ⊎ Above must_second barrier place.mother.0
    pub blocks : EachEntry box barrier (λ c. Contains (set_row group barrier c) place.label.0)
    pub apart : Above may_first barrier place.daughter.0 → ⊥

  -- an edge of the first dimension, for which each remaining entry of its mother links, and by no edges that may be
  pub record LinkingReach (way : Linking) (d v : ℕ) : Type 0 where
    pub place : Edge
    pub is : IsPlaceOn parts (first_dim group) place
    pub says : SaysPresent parts place d v
    pub links : EachEntry box place.mother.0 (λ c. 0 < length (map_row group place.mother.0 c place.label.0))
    pub apart : EachEntry box place.mother.0
        (λ c. IsLinked way may_second place.mother.0 (map_row group place.mother.0 c place.label.0) place.daughter.0 → ⊥)

  -- two edges from one node to another, of the first dimension and of the second, that each remaining entry keeps apart: either
  -- one where the other must be
  pub record LinkingNotDaughter (d v : ℕ) : Type 0 where
    pub place : Edge
    pub is : IsPlaceOn parts (first_dim group) place
    pub other : Edge
    pub other_is : IsPlaceOn parts (second_dim group) other
    pub mother : place.mother.0 ≡ other.mother.0
    pub daughter : place.daughter.0 ≡ other.daughter.0
    pub keeps : EachEntry box place.mother.0 (λ c. Contains (set_row group place.mother.0 c) place.label.0)
    pub one : (SaysPresent parts place d v × Contains must_second other) ⊎ (SaysPresent parts other d v × Contains must_first place)

  -- ---- principles

  -- the two rules of a dimension with one root, which take single values, and where they fail all
  abbrev pub TakesForRoot : ℕ → ℕ → Type 0
  TakesForRoot d v = RootFound d v ⊎ (HasNoRoot ⊎ (OnlyMother d v ⊎ HasTwoRoots))

-- what the rule of a principle takes that links in a way
abbrev pub TakesLinked : Option Linking → Parts → Group → List (List Bool) → ℕ → ℕ → Type 0
TakesLinked None parts group box d v = ⊥
TakesLinked (Some way) parts group box d v = LinkingReach parts group box way d v

-- what the rules of a principle take, beside its tests
abbrev pub TakesBy : Principle → Parts → Group → List (List Bool) → ℕ → ℕ → Type 0
TakesBy principles.Tree parts group box d v = OneMother parts group box d v ⊎ (TakesForRoot parts group box d v ⊎ NoCycle parts group box d v)
TakesBy principles.Dag parts group box d v =
    NoCycle parts group box d v
    ⊎ (((truth_of group.truths 0 ≡ true) × TakesForRoot parts group box d v) ⊎ ((truth_of group.truths 1 ≡ true) × OneLabel parts group box d v))
TakesBy principles.Valency parts group box d v = ValencyEntry parts group box d v ⊎ (ValencyFull parts group box d v ⊎ ValencyNeeded parts group box d v)
TakesBy principles.Order parts group box d v = DaughterOrder parts group box d v ⊎ (AboutHead parts group box d v ⊎ OfHead parts group box d v)
TakesBy principles.Projectivity parts group box d v = ProjectivityReach parts group box d v
TakesBy principles.Agr parts group box d v = AgrValues parts group box d v
TakesBy principles.Agreement parts group box d v = AgreementValues parts group box d v
TakesBy principles.Government parts group box d v = GovernmentValues parts group box d v
TakesBy principles.Climbing parts group box d v = ClimbingReach parts group box d v
TakesBy principles.Barriers parts group box d v = BarriersReach parts group box d v
TakesBy principles.LinkingNotDaughter parts group box d v = LinkingNotDaughter parts group box d v
TakesBy (principles.Rule formula) parts group box d v = RuleFalse parts formula box
TakesBy (principles.Bound costs bound) parts group box d v = BoundReached parts costs bound box ⊎ BoundPlace parts costs bound box d v
TakesBy principle parts group box d v = TakesLinked (linking_of principle) parts group box d v

-- what a principle use takes from a box: everything where a test of it fails that is decided, and what its rules take
abbrev pub Takes : Parts → Group → List (List Bool) → ℕ → ℕ → Type 0
Takes parts group box d v = FailsTest parts group box ⊎ TakesBy group.principle parts group box d v

-- ---- closed boxes

-- a principle use takes nothing that remains
abbrev pub IsClosedFor : Parts → Group → List (List Bool) → Type 0
IsClosedFor parts group box = (d v : ℕ) → Has box d v → Takes parts group box d v → ⊥

-- no principle use takes anything that remains
abbrev pub IsClosed : Parts → List (List Bool) → Type 0
IsClosed parts box = All (λ group. IsClosedFor parts group box) parts.groups

-- The table of principles: each definition is a column of it, with a line for a principle or for all others. What a principle asks stands in
-- Asking and Tests, and what it takes from boxes in xdg_rules.
use Rattle.std.specs.Prelude.{ℕ, List, codes, ◌≡◌, ◌≢◌, ◌<◌, ◌≤◌, [], length, All, AllPairs, Bool, ◌∷◌, ◌++◌, cond, true, false, Option, None, Some}
use Rattle.xdg_problem.specs.declared.parts.Linking.{Linking}
use Rattle.xdg_problem.specs.declared.parts.Linking.TheVariants as linkings
use Rattle.xdg_problem.specs.declared.parts.Principle.{Principle}
use Rattle.xdg_problem.specs.declared.parts.Principle.TheVariants as principles
use Rattle.xdg_base.specs.declared.ids.LabelId.{LabelId}
use Rattle.std.specs.List.Sorted.{IsStrictlyIncreasing}
use Rattle.xdg_problem.specs.declared.parts.Feat.{Feat}
use Rattle.xdg_problem.specs.declared.parts.Group.{Group}
use Rattle.xdg_problem.specs.declared.parts.Parts.{Parts}
use Rattle.xdg_problem.specs.Arguments.{first_dim, second_dim, label_count, value_count, attr_of, truth_of}
use Rattle.xdg_problem.specs.declared.conditions.Condition.{Condition}
use Rattle.xdg_problem.specs.declared.conditions.Condition.TheVariants as conditions
use Rattle.xdg_problem.specs.declared.principles.PrincipleFamily.{PrincipleFamily}
use Rattle.xdg_problem.specs.declared.principles.PrincipleFamily.TheVariants as families

-- those of several dimensions
abbrev pub multidimensional : List Principle
multidimensional =
    principles.Climbing ∷ principles.Barriers
    ∷ principles.LinkingEnd ∷ principles.LinkingDaughter ∷ principles.LinkingMother
    ∷ principles.LinkingBelowStart ∷ principles.LinkingAboveStart ∷ principles.LinkingSisters
    ∷ principles.LinkingNotDaughter ∷ []

-- those that compare values, and those
abbrev pub comparing : List Principle
comparing = principles.Agr ∷ principles.Agreement ∷ principles.Government ∷ multidimensional

-- those that grammar texts can use
abbrev pub all_principles : List Principle
all_principles =
    principles.Graph ∷ principles.Entries ∷ principles.Tree ∷ principles.Dag ∷ principles.Valency ∷ principles.Order ∷ principles.Projectivity
    ∷ comparing

-- the name of a principle
abbrev pub name_of : Principle → List ℕ
name_of principles.Graph = codes "principle.graph"
name_of principles.Entries = codes "principle.entries"
name_of principles.Tree = codes "principle.tree"
name_of principles.Dag = codes "principle.dag"
name_of principles.Valency = codes "principle.valency"
name_of principles.Order = codes "principle.order"
name_of principles.Projectivity = codes "principle.projectivity"
name_of principles.Agr = codes "principle.agr"
name_of principles.Agreement = codes "principle.agreement"
name_of principles.Government = codes "principle.government"
name_of principles.Climbing = codes "principle.climbing"
name_of principles.Barriers = codes "principle.barriers"
name_of principles.LinkingEnd = codes "principle.linkingEnd"
name_of principles.LinkingDaughter = codes "principle.linkingDaughter"
name_of principles.LinkingMother = codes "principle.linkingMother"
name_of principles.LinkingBelowStart = codes "principle.linkingBelowStart"
name_of principles.LinkingAboveStart = codes "principle.linkingAboveStart"
name_of principles.LinkingSisters = codes "principle.linkingSisters"
name_of principles.LinkingNotDaughter = codes "principle.linkingNotDaughter"
name_of (principles.Rule formula) = codes "rule"
name_of (principles.Bound costs bound) = codes "bound"

-- a cardinality: at least one number, and none above 127
pub record IsCardinality (numbers : List ℕ) : Type 0 where
  pub some : 0 < length numbers
  pub rising : IsStrictlyIncreasing numbers
  pub small : All (λ number. number ≤ 127) numbers

-- a feature that gives a cardinality for each label
pub record IsValency (labels : ℕ) (feature : Feat) : Type 0 where
  pub count : length feature.rows ≡ labels
  pub rows : All IsCardinality feature.rows

-- a set of numbers below a bound
pub record IsSet (bound : ℕ) (numbers : List ℕ) : Type 0 where
  pub rising : IsStrictlyIncreasing numbers
  pub small : All (λ number. number < bound) numbers

-- a feature that is a set, in one row, or gives a set for each label
pub record AreSets (rows bound : ℕ) (feature : Feat) : Type 0 where
  pub count : length feature.rows ≡ rows
  pub each : All (IsSet bound) feature.rows

-- how a principle links, where it asks for edges that link
abbrev pub linking_of : Principle → Option Linking
linking_of principles.LinkingEnd = Some linkings.End
linking_of principles.LinkingDaughter = Some linkings.Daughter
linking_of principles.LinkingMother = Some linkings.Mother
linking_of principles.LinkingBelowStart = Some linkings.BelowStart
linking_of principles.LinkingAboveStart = Some linkings.AboveStart
linking_of principles.LinkingSisters = Some linkings.Sisters
linking_of principle = None

-- there is a way
abbrev pub HasWay : Option Linking → Type 0
HasWay None = ⊥
HasWay (Some way) = Unit {0}

abbrev pub has_way : Option Linking → Bool
has_way None = false
has_way (Some way) = true

-- the way, and End where there is none
abbrev pub way_in : Option Linking → Linking
way_in None = linkings.End
way_in (Some way) = way

-- how many dimensions a principle takes
abbrev pub dim_arguments : Principle → ℕ
dim_arguments principles.Climbing = 2
dim_arguments principles.Barriers = 2
dim_arguments principles.LinkingNotDaughter = 3
dim_arguments (principles.Rule formula) = 0
dim_arguments (principles.Bound costs bound) = 0
dim_arguments principle = cond (has_way (linking_of principle)) 3 1

-- how many attributes of its dimension a principle takes
abbrev pub attr_arguments : Principle → ℕ
attr_arguments principles.Order = 1
attr_arguments principles.Agr = 1
attr_arguments principles.Agreement = 2
attr_arguments principles.Government = 1
attr_arguments principle = 0

-- how many truth values a principle takes
abbrev pub truth_arguments : Principle → ℕ
truth_arguments principles.Dag = 2
truth_arguments principles.Order = 1
truth_arguments principle = 0

-- the list of labels that a principle takes: order takes different labels of its dimension
abbrev pub IsOrderFor : Principle → ℕ → List LabelId → Type 0
IsOrderFor principles.Order labels order = All (λ label. label.0 < labels) order × AllPairs (λ a b. a ≢ b) order
IsOrderFor principle labels order = order ≡ []

-- one feature of sets
abbrev pub IsOneOfSets : ℕ → ℕ → List Feat → Type 0
IsOneOfSets rows bound features = (length features ≡ 1) × All (AreSets rows bound) features

-- the features that linking takes
abbrev pub AreLinkFeatures : Option Linking → Parts → Group → List Feat → Type 0
AreLinkFeatures None parts group features = length features ≡ 0
AreLinkFeatures (Some way) parts group features = IsOneOfSets (label_count parts (first_dim group)) (label_count parts (second_dim group)) features

-- the features of one candidate: those that the principle takes
abbrev pub AreFeatures : Principle → Parts → Group → List Feat → Type 0
-- In and Out
AreFeatures principles.Valency parts group features = (length features ≡ 2) × All (IsValency (label_count parts (first_dim group))) features
-- Agrs, a set of values of Agr
AreFeatures principles.Agr parts group features = IsOneOfSets 1 (value_count parts (first_dim group) (attr_of group 0)) features
-- Agree, a set of labels
AreFeatures principles.Agreement parts group features = IsOneOfSets 1 (label_count parts (first_dim group)) features
-- Govern, for each label a set of values of Agr
AreFeatures principles.Government parts group features =
    IsOneOfSets (label_count parts (first_dim group)) (value_count parts (first_dim group) (attr_of group 0)) features
-- Blocks, a set of labels of the second dimension
AreFeatures principles.Barriers parts group features = IsOneOfSets 1 (label_count parts (second_dim group)) features
-- Link, a set of labels of the first dimension
AreFeatures principles.LinkingNotDaughter parts group features = IsOneOfSets 1 (label_count parts (first_dim group)) features
-- where it links, Link, for each label of the first dimension a set of labels of the second; else it takes none
AreFeatures principle parts group features = AreLinkFeatures (linking_of principle) parts group features

-- which of a principle's dimensions has its features: D2 for barriers, D3 for linking, and else D or D1
abbrev pub feature_dim : Principle → ℕ
feature_dim principles.Barriers = 1
feature_dim principles.LinkingNotDaughter = 2
feature_dim principle = cond (has_way (linking_of principle)) 2 0

-- the conditions of a principle with its truth values, which choose two of those of dag; all linkings have one
abbrev pub conditions_for : Principle → List Bool → List Condition
conditions_for principles.Graph truths = []
conditions_for principles.Entries truths = []
conditions_for principles.Tree truths = conditions.Cycle ∷ conditions.Roots ∷ conditions.Mothers ∷ []
conditions_for principles.Dag truths =
    conditions.Cycle ∷ (cond (truth_of truths 0) (conditions.Roots ∷ []) [] ++ cond (truth_of truths 1) (conditions.Pair ∷ []) [])
conditions_for principles.Valency truths = conditions.InCount ∷ conditions.OutCount ∷ []
conditions_for principles.Order truths = conditions.Order ∷ []
conditions_for principles.Projectivity truths = conditions.Between ∷ []
conditions_for principles.Agr truths = conditions.Agr ∷ []
conditions_for principles.Agreement truths = conditions.Agree ∷ []
conditions_for principles.Government truths = conditions.Govern ∷ []
conditions_for principles.Climbing truths = conditions.Below ∷ []
conditions_for principles.Barriers truths = conditions.Blocked ∷ []
conditions_for (principles.Rule formula) truths = conditions.Rule ∷ []
conditions_for (principles.Bound costs bound) truths = conditions.Bound ∷ []
conditions_for principle truths = conditions.Link ∷ []

-- the tests of a principle look at entries; those of a rule and of a bound aren't told here: they go by more than the principle
abbrev pub looks_at_entries : Principle → Bool
looks_at_entries principles.Valency = true
looks_at_entries principles.Agr = true
looks_at_entries principles.Agreement = true
looks_at_entries principles.Government = true
looks_at_entries principles.Barriers = true
looks_at_entries principles.LinkingNotDaughter = true
looks_at_entries principle = has_way (linking_of principle)

-- at attributes of the first dimension
abbrev pub looks_at_attrs : Principle → Bool
looks_at_attrs principles.Order = true
looks_at_attrs principles.Agr = true
looks_at_attrs principles.Agreement = true
looks_at_attrs principles.Government = true
looks_at_attrs principle = false

-- at edges of the first dimension
abbrev pub looks_at_first : Principle → Bool
looks_at_first principles.Graph = false
looks_at_first principles.Entries = false
looks_at_first principles.Agr = false
looks_at_first (principles.Rule formula) = false
looks_at_first (principles.Bound costs bound) = false
looks_at_first principle = true

-- at edges of the second
abbrev pub looks_at_second : Principle → Bool
looks_at_second principles.Climbing = true
looks_at_second principles.Barriers = true
looks_at_second principles.LinkingNotDaughter = true
looks_at_second principle = has_way (linking_of principle)

-- the principles of each family
abbrev pub IsOf : PrincipleFamily → Principle → Type 0
IsOf families.Graph principles.Graph = Unit {0}
IsOf families.Graph principles.Entries = Unit {0}
IsOf families.Graph principles.Tree = Unit {0}
IsOf families.Graph principles.Dag = Unit {0}
IsOf families.Graph principles.Valency = Unit {0}
IsOf families.Order principles.Order = Unit {0}
IsOf families.Order principles.Projectivity = Unit {0}
IsOf families.Agree principles.Agr = Unit {0}
IsOf families.Agree principles.Agreement = Unit {0}
IsOf families.Agree principles.Government = Unit {0}
IsOf families.Multi principles.Climbing = Unit {0}
IsOf families.Multi principles.Barriers = Unit {0}
IsOf families.Link principles.LinkingNotDaughter = Unit {0}
IsOf families.Link principle = HasWay (linking_of principle)
IsOf families.Rule (principles.Rule formula) = Unit {0}
IsOf families.Bound (principles.Bound costs bound) = Unit {0}
IsOf family principle = ⊥

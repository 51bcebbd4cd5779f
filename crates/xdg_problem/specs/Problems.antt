-- What the parts of a problem keep.
use Rattle.std.specs.Prelude.{◌≡◌, ◌≢◌, ℕ, ◌<◌, ◌≤◌, List, [], length, All, AllPairs, slice_index_or}
use Rattle.xdg_base.specs.declared.ids.EntryNo.{EntryNo}
use Rattle.xdg_problem.specs.declared.parts.AttrPlan.{AttrPlan}
use Rattle.xdg_problem.specs.declared.parts.DimPlan.{DimPlan}
use Rattle.xdg_problem.specs.declared.parts.Group.{Group}
use Rattle.xdg_problem.specs.declared.parts.Parts.{Parts}
use Rattle.xdg_problem.specs.declared.parts.Shown.{Shown}
use Rattle.xdg_problem.specs.declared.parts.Shown.TheVariants as shown
use Rattle.xdg_problem.specs.declared.parts.Principle.{Principle}
use Rattle.xdg_problem.specs.declared.parts.Principle.TheVariants as principles
use Rattle.xdg_problem.specs.Places.{nodes}
use Rattle.xdg_problem.specs.Claims.{Suits}
use Rattle.xdg_problem.specs.Arguments.{first_dim, label_count, attr_count}
use Rattle.xdg_problem.specs.Principles.{dim_arguments, attr_arguments, truth_arguments, IsOrderFor, AreFeatures}

-- the candidates of a node: 1 to 1,024, rising
pub record AreCandidates (candidates : List EntryNo) : Type 0 where
  pub some : 0 < length candidates
  pub most : length candidates ≤ 1024
  pub rising : AllPairs (λ a b. a.0 < b.0) candidates
  pub small : All (λ entry. entry.0 < 4294967295) candidates

-- a value shows at least one constant
abbrev pub HasConstant : Shown → Type 0
HasConstant (shown.One constant) = Unit {0}
HasConstant (shown.Many constants) = 0 < length constants

-- an attribute: 1 to 1,024 values, each shown in its own way
pub record IsAttr (attr : AttrPlan) : Type 0 where
  pub some : 0 < length attr.values
  pub most : length attr.values ≤ 1024
  pub shown_as : All HasConstant attr.values
  pub differ : AllPairs (λ a b. a ≢ b) attr.values

-- a dimension: at most 32 labels and 8 attributes, whose names differ
pub record IsDim (plan : DimPlan) : Type 0 where
  pub labels_most : length plan.labels ≤ 32
  pub labels_differ : AllPairs (λ a b. a ≢ b) plan.labels
  pub attrs_most : length plan.attrs ≤ 8
  pub attrs_differ : AllPairs (λ a b. a.name ≢ b.name) plan.attrs
  pub attrs : All IsAttr plan.attrs

-- what a principle holds goes with the problem: the formula of a rule. What costs speak of need not be there.
abbrev pub IsSuited : Principle → Parts → Type 0
IsSuited (principles.Rule formula) parts = Suits parts formula
IsSuited principle parts = Unit {0}

-- a principle use: as many dimensions, attributes and truth values as the principle takes, those that are numbers in
-- range, the features for each candidate of each node, and a principle that goes with the problem
pub record IsGroup (parts : Parts) (group : Group) : Type 0 where
  pub dims_count : length group.dims ≡ dim_arguments group.principle
  pub dims : All (λ dim. dim.0 < length parts.dims) group.dims
  pub attrs_count : length group.attrs ≡ attr_arguments group.principle
  pub attrs : All (λ attr. attr.0 < attr_count parts (first_dim group)) group.attrs
  pub order : IsOrderFor group.principle (label_count parts (first_dim group)) group.order
  pub truths_count : length group.truths ≡ truth_arguments group.principle
  pub feats : length group.feats ≡ nodes parts
  pub feats_each : (v : ℕ) → v < nodes parts → length (slice_index_or group.feats v []) ≡ length (slice_index_or parts.candidates v [])
  pub features : (v : ℕ) → v < nodes parts → All (AreFeatures group.principle parts group) (slice_index_or group.feats v [])
  pub suits : IsSuited group.principle parts

-- a problem: 1 to 128 words, candidates for each, at most 8 dimensions with different names, and principle uses on them
pub record IsProblem (parts : Parts) : Type 0 where
  pub some : 0 < nodes parts
  pub most : nodes parts ≤ 128
  pub candidates_each : length parts.candidates ≡ nodes parts
  pub candidates : All AreCandidates parts.candidates
  pub dims_most : length parts.dims ≤ 8
  pub dims_differ : AllPairs (λ a b. a.name ≢ b.name) parts.dims
  pub dims : All IsDim parts.dims
  pub groups : All (IsGroup parts) parts.groups

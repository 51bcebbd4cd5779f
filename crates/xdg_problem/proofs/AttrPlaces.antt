-- The values of attributes that a test looks at stand among those of the sentence.
use Rattle.std.proofs.Common.{◌≡◌, ℕ, ◌<◌, ◌≤◌, ◌+◌, ◌*◌, zero, suc, List, [], ◌∷◌, length, take, map, sym, subst, arith, length-append, rules}
use Rattle.std.specs.Prelude.{All, slice_index_or}
use Rattle.std.specs.List.{flat_map}
use Rattle.std.proofs.lemmas.List.Elements.{All-cons}
use Rattle.std.proofs.lemmas.Nat.{row_fits}
use Rattle.xdg_facts.proofs.Lists.{all_one}
use Rattle.xdg_problem.specs.declared.parts.AttrPlan.{AttrPlan}
use Rattle.xdg_problem.specs.declared.parts.DimPlan.{DimPlan}
use Rattle.xdg_problem.specs.declared.parts.Group.{Group}
use Rattle.xdg_problem.specs.declared.parts.Parts.{Parts}
use Rattle.xdg_problem.specs.declared.parts.Principle.{Principle}
use Rattle.xdg_problem.specs.declared.parts.Principle.TheVariants as principles
use Rattle.xdg_problem.specs.Places.{nodes, below}
use Rattle.xdg_problem.specs.Vectors.{attr_sizes}
use Rattle.xdg_problem.specs.Arguments.{first_dim, label_count, attr_count, attr_of, attr_place, no_plan}
use Rattle.xdg_problem.specs.Problems.{IsGroup}
use Rattle.xdg_problem.specs.Tests.{Test, test_attrs}
use Rattle.xdg_problem.proofs.Counted.{length_attrs_of}
use Rattle.xdg_problem.proofs.EachTest.{Each}
use Rattle.xdg_problem.specs.Principles.{dim_arguments, attr_arguments}

-- the values of a dimension stand behind those of the dimensions before it
attrs_before : (n : ℕ) (plans : List DimPlan) (dim : ℕ) → dim < length plans → length (attr_sizes n (take dim plans)) + n * length (slice_index_or plans dim no_plan).attrs ≤ length (attr_sizes n plans)
attrs_before n [] dim l = absurd (omega (arith, l))
attrs_before n (plan ∷ plans) zero l =
    let both = length-append (flat_map (λ (node : ℕ). map (λ (attr : AttrPlan). length attr.values) plan.attrs) (below n)) (attr_sizes n plans) in
    let here = length_attrs_of n plan in
    omega (arith, both, here)
attrs_before n (plan ∷ plans) (suc dim) l =
    let whole = length-append (flat_map (λ (node : ℕ). map (λ (attr : AttrPlan). length attr.values) plan.attrs) (below n)) (attr_sizes n plans) in
    let front = length-append (flat_map (λ (node : ℕ). map (λ (attr : AttrPlan). length attr.values) plan.attrs) (below n)) (attr_sizes n (take dim plans)) in
    let rest = attrs_before n plans dim (omega (arith, l)) in
    omega (arith, whole, front, rest)

pub attr_within : (parts : Parts) (dim node attr : ℕ) → dim < length parts.dims → node < nodes parts → attr < attr_count parts dim → attr_place parts dim node attr < length (attr_sizes (nodes parts) parts.dims)
attr_within parts dim node attr d v a =
    let before = attrs_before (nodes parts) parts.dims dim d in
    let row = row_fits node (attr_count parts dim) (nodes parts) (attr_count parts dim) v (omega arith) in
    omega (arith, before, row, a)

-- a principle that takes an attribute takes a dimension
attr_dim : (principle : Principle) (argument : ℕ) → argument < attr_arguments principle → 0 < dim_arguments principle
attr_dim principles.Graph argument l = omega (arith, l)
attr_dim principle argument l = omega (arith, l)

-- the first dimension of a principle use is one of the sentence, where its principle takes one
pub first_dim_within : (parts : Parts) (group : Group) → IsGroup parts group → 0 < dim_arguments group.principle → first_dim group < length parts.dims
first_dim_within parts group is some =
    let count = is.dims_count in
    is.dims 0 (record { 0 = 0 }) (omega (arith, some, count))

-- and where it takes an attribute
pub attr_dim_within : (parts : Parts) (group : Group) → IsGroup parts group → (argument : ℕ) → argument < attr_arguments group.principle → first_dim group < length parts.dims
attr_dim_within parts group is argument l = first_dim_within parts group is (attr_dim group.principle argument l)

module _ (parts : Parts) (group : Group) (is : IsGroup parts group) where
  -- where a principle use takes an attribute, the place of its value for a node is in range
  takes : (principle : Principle) (argument : ℕ) → group.principle ≡ principle → argument < attr_arguments principle → (node : ℕ) → node < nodes parts → attr_place parts (first_dim group) node (attr_of group argument) < length (attr_sizes (nodes parts) parts.dims)
  takes principle argument same l node v =
      let count : length group.attrs ≡ attr_arguments principle = subst (λ p. length group.attrs ≡ attr_arguments p) same is.attrs_count in
      attr_within parts (first_dim group) node (attr_of group argument) (attr_dim_within parts group is argument (subst (λ p. argument < attr_arguments p) (sym same) l)) v (is.attrs argument (record { 0 = 0 }) (omega (arith, l, count)))

  abbrev IsWithin : ℕ → Type 0
  IsWithin place = place < length (attr_sizes (nodes parts) parts.dims)

  abbrev pub AreWithin : Test → Type 0
  AreWithin test = All IsWithin (test_attrs parts group test)

  pub each_within : (principle : Principle) → group.principle ≡ principle → Each group.truths (nodes parts) (label_count parts (first_dim group)) AreWithin principle
  each_within principles.Order same = (
    λ e u a. all_one IsWithin _ (takes principles.Order 0 same (omega arith) u a),
    λ e u a. all_one IsWithin _ (takes principles.Order 0 same (omega arith) u a),
  )
  each_within principles.Agr same = λ v a. all_one IsWithin _ (takes principles.Agr 0 same (omega arith) v a)
  each_within principles.Agreement same = λ u a l b v c. All-cons IsWithin _ (attr_place parts (first_dim group) v (attr_of group 1) ∷ []) (takes principles.Agreement 0 same (omega arith) u a) (all_one IsWithin _ (takes principles.Agreement 1 same (omega arith) v c))
  each_within principles.Government same = λ u a l b v c. all_one IsWithin _ (takes principles.Government 0 same (omega arith) v c)
  each_within principle same = search rules

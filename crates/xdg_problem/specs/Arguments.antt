-- The arguments of a principle use, and what they name.
use Rattle.std.specs.Prelude.{ℕ, ◌+◌, ◌*◌, Bool, false, List, [], length, map, take, slice_index_or}
use Rattle.xdg_problem.specs.declared.parts.AttrPlan.{AttrPlan}
use Rattle.xdg_problem.specs.declared.parts.DimPlan.{DimPlan}
use Rattle.xdg_problem.specs.declared.parts.Group.{Group}
use Rattle.xdg_problem.specs.declared.parts.Parts.{Parts}
use Rattle.xdg_problem.specs.Places.{nodes}
use Rattle.xdg_problem.specs.Vectors.{attr_sizes}

-- the dimension that a dimension argument names
abbrev pub dim_of : Group → ℕ → ℕ
dim_of group argument = (slice_index_or group.dims argument (record { 0 = 0 })).0

-- the dimensions that the first and the second dimension argument name
abbrev pub first_dim : Group → ℕ
first_dim group = dim_of group 0

abbrev pub second_dim : Group → ℕ
second_dim group = dim_of group 1

-- the attribute that an attribute argument names
abbrev pub attr_of : Group → ℕ → ℕ
attr_of group argument = (slice_index_or group.attrs argument (record { 0 = 0 })).0

-- the labels of the argument Order
abbrev pub order_of : Group → List ℕ
order_of group = map (λ label. label.0) group.order

-- a truth value
abbrev pub truth_of : List Bool → ℕ → Bool
truth_of truths argument = slice_index_or truths argument false

abbrev pub no_plan : DimPlan
no_plan = record { name = []; labels = []; attrs = []; graph = false }

abbrev pub no_attr : AttrPlan
no_attr = record { name = []; values = [] }

-- how many labels a dimension has
abbrev pub label_count : Parts → ℕ → ℕ
label_count parts dim = length (slice_index_or parts.dims dim no_plan).labels

-- how many attributes a dimension has
abbrev pub attr_count : Parts → ℕ → ℕ
attr_count parts dim = length (slice_index_or parts.dims dim no_plan).attrs

-- how many values an attribute of a dimension has
abbrev pub value_count : Parts → ℕ → ℕ → ℕ
value_count parts dim attr = length (slice_index_or (slice_index_or parts.dims dim no_plan).attrs attr no_attr).values

-- Where the value of an attribute of a node stands among all values of attributes: these stand by dimension, node and
-- attribute.
abbrev pub attr_place : Parts → ℕ → ℕ → ℕ → ℕ
attr_place parts dim node attr = length (attr_sizes (nodes parts) (take dim parts.dims)) + (node * attr_count parts dim + attr)

-- The values of the attributes of dimensions.
use Rattle.std.specs.Prelude.{◌≡◌, ℕ, List, length, map}
use Rattle.xdg_facts.specs.Fits.{Fits}
use Rattle.xdg_problem.specs.declared.parts.DimPlan.{DimPlan}
use Rattle.xdg_problem.specs.Vectors.{attr_sizes}

-- how many values each attribute of a dimension has
abbrev pub value_counts : DimPlan → List ℕ
value_counts plan = map (λ attr. length attr.values) plan.attrs

-- a value for each attribute of each node, one of those that the attribute has
abbrev pub AreValues : ℕ → List DimPlan → List ℕ → Type 0
AreValues n plans values = (length values ≡ length (attr_sizes n plans)) × Fits (attr_sizes n plans) values

-- How many decisions a dimension has.
use Rattle.std.specs.Prelude.{ℕ, ◌+◌, ◌*◌, ◌-◌, cond, length}
use Rattle.xdg_problem.specs.declared.parts.DimPlan.{DimPlan}

-- a value for each node and attribute, and where it has edges one for each mother, label and other node
abbrev pub dim_decisions : ℕ → DimPlan → ℕ
dim_decisions n plan = n * length plan.attrs + cond plan.graph (n * (length plan.labels * (n - 1))) 0

-- The used dimensions of a grammar, compiled.
use Rattle.std.specs.Prelude.{ℕ, ◌==◌, ◌&&◌, Bool, true, false, List, [], map, get_or}
use Rattle.std.specs.List.{list_any, range_with_len}
use Rattle.xdg_domain.specs.Shapes.{Shape, domain, tuple, count}
use Rattle.xdg_problem.specs.declared.parts.AttrPlan.{AttrPlan}
use Rattle.xdg_problem.specs.declared.parts.DimPlan.{DimPlan}
use Rattle.xdg_problem.specs.declared.parts.Principle.{Principle}
use Rattle.xdg_problem.specs.declared.parts.Principle.TheVariants as principles
use Rattle.xdg_problem.specs.declared.parts.Shown.{Shown}
use Rattle.xdg_problem.specs.declared.parts.Shown.TheVariants as shown
use Rattle.xdg_terms.specs.Means.{tuple_texts}
use Rattle.xdg_types.specs.declared.table.DimType.{DimType}
use Rattle.xdg_types.specs.Table.{Table, Typed, typed}
use Rattle.xdg_principles.specs.declared.building.PrincipleUse.{PrincipleUse}
use Rattle.xdg_build.specs.Grammars.{Grammar, is_used}
use Rattle.xdg_formula.specs.Tables.{no_dim}

-- how the value with that number is shown: by its constant, or by those of its tuple
abbrev pub shown_as : Shape → ℕ → Shown
shown_as (domain cs) n = shown.One (get_or cs n [])
shown_as (tuple ss) n = shown.Many (tuple_texts ss n)
shown_as s n = shown.Many []

-- an attribute with all values of its type, in order
abbrev pub attr_plan : List ℕ → Shape → AttrPlan
attr_plan name s = record { name = name; values = map (shown_as s) (range_with_len 0 (count s)) }

abbrev pub attr_plans : Typed → List AttrPlan
attr_plans attrs = map (λ attr. attr_plan attr.0 attr.1) attrs

-- the principle is graph
abbrev pub is_graph : Principle → Bool
is_graph principles.Graph = true
is_graph principle = false

-- the use, which stands in a used dimension, is of the principle graph on the dimension with that place among all
abbrev pub makes_graph : Table → ℕ → PrincipleUse → Bool
makes_graph table k u = is_used table u.home && is_graph u.principle && list_any (λ dim. dim == k) u.dims

-- the dimension with that place has edges: some use in a used dimension is of the principle graph on it
abbrev pub has_graph : Grammar → ℕ → Bool
has_graph g k = list_any (makes_graph g.table k) g.uses

-- the dimension with that place among all
abbrev pub dim_plan : Grammar → ℕ → DimType → DimPlan
dim_plan g k dim = record { name = dim.name; labels = dim.labels; attrs = attr_plans (typed dim.attrs); graph = has_graph g k }

-- the same by the place alone, among these dimensions
abbrev pub plan_at : Grammar → List DimType → ℕ → DimPlan
plan_at g dims k = dim_plan g k (get_or dims k no_dim)

-- the used dimensions, in the order of their uses
abbrev pub plans : Grammar → List DimPlan
plans g = map (plan_at g g.table.dims) g.table.used

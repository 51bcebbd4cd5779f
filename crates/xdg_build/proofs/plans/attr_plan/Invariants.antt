use Rattle.std.proofs.Common.{◌≡◌, map}
use Rattle.std.specs.List.{range_with_len}
use Rattle.xdg_domain.specs.Shapes.{shape}
use Rattle.xdg_build.specs.Plans.{shown_as}
use Rattle.xdg_build.proofs.plans.attr_plan.Given as goal

abbrev pub invariant-loop-number : goal.invariant-loop-number
invariant-loop-number l = l.values ≡ map (shown_as (shape l.ty)) (range_with_len 0 l.number)

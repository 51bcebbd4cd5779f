use Rattle.std.proofs.Common.{◌≡◌, take}
use Rattle.xdg_types.specs.Table.{typed}
use Rattle.xdg_build.specs.Plans.{attr_plans}
use Rattle.xdg_build.proofs.plans.attr_plans.Given as goal

abbrev pub invariant-loop-attr : goal.invariant-loop-attr
invariant-loop-attr l = l.made ≡ attr_plans (typed (take l.attr-index l.attrs))

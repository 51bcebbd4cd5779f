use Rattle.std.proofs.Common.{◌<◌, All, sym, subst, length}
use Rattle.xdg_types.specs.Table.{KeepDims}
use Rattle.xdg_build.proofs.plans.plans.Goals as goal
use Rattle.xdg_formula.proofs.Turns.{place_within}

pub plans_of-requires-clause-dims : goal.plans_of-requires-clause-dims
plans_of-requires-clause-dims c = subst KeepDims (sym c.dims.ensures.same) c.dims.ensures.keeps.dims

pub plans_of-requires-clause-used : goal.plans_of-requires-clause-used
plans_of-requires-clause-used c =
    let table = c.types-types.result.now in
    subst (λ dims. All (λ k. k < length dims) c.used.result.now) (sym c.dims.ensures.same)
    (subst (λ used. All (λ k. k < length table.dims) used) (sym c.used.ensures.same) (λ i d within. place_within (length table.dims) table.used i d c.used.ensures.keeps.used within))

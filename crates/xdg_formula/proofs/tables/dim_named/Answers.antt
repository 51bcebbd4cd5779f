use Rattle.std.proofs.Common.{◌<◌, All, sym, subst, length}
use Rattle.xdg_formula.proofs.Turns.{place_within}
use Rattle.xdg_formula.proofs.tables.dim_named.Goals as goal

pub dim_among-requires : goal.dim_among-requires
dim_among-requires c =
    let table = c.args.types.now in
    subst (λ dims. All (λ k. k < length dims) c.used.result.now) (sym c.dims.ensures.same)
    (subst (λ used. All (λ k. k < length table.dims) used) (sym c.used.ensures.same) (λ i d within. place_within (length table.dims) table.used i d c.used.ensures.keeps.used within))

use Rattle.std.proofs.Common.{◌∙◌, ap₂, List, ℕ}
use Rattle.xdg_types.specs.declared.table.DimType.{DimType}
use Rattle.xdg_best.specs.Naming.{place_named}
use Rattle.xdg_best.proofs.Named.{small_dim}
use Rattle.xdg_best.proofs.naming.dim_number.Goals as goal

pub returns-clause-small : goal.returns-clause-small
returns-clause-small c =
    small_dim c.args.types.now c.args.name.now _ c.dims.ensures.keeps
    (c.place_named.ensures ∙ ap₂ (λ (d : List DimType) (u : List ℕ). place_named d u c.args.name.now) c.dims.ensures.same c.used.ensures.same)

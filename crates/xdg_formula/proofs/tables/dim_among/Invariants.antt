use Rattle.std.proofs.Common.{◌≡◌, drop}
use Rattle.xdg_formula.specs.Tables as spec
use Rattle.xdg_types.specs.Table.{dim_named}
use Rattle.xdg_formula.proofs.tables.dim_among.Given as goal

abbrev pub invariant-loop-place : goal.invariant-loop-place
invariant-loop-place l = dim_named (spec.dims_at l.dims (drop l.place-index l.used)) l.name ≡ dim_named (spec.dims_at l.dims l.used) l.name

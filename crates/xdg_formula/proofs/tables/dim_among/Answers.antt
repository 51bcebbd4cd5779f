use Rattle.std.proofs.Common.{◌≡◌, true, false}
use Rattle.std.specs.Prelude.{bytes_eq}
use Rattle.xdg_formula.proofs.Turns.{dim_found, dim_passed}
use Rattle.xdg_formula.proofs.tables.dim_among.Goals as goal

pub returns-then-eq : goal.returns-then-eq
returns-then-eq c =
    let same : bytes_eq c.index-dims-place.result.name c.args.name.now ≡ true = cc in
    dim_found c.args.dims.now c.args.used.now c.args.name.now c.loop-place.place-index c.loop-place-test.true c.loop-place.invariant c.index-dims-place.result (c.requires c.loop-place.place-index 0 c.loop-place-test.true) c.index-dims-place.is same

pub loop-place-preserved : goal.loop-place-preserved
loop-place-preserved c =
    let other : bytes_eq c.index-dims-place.result.name c.args.name.now ≡ false = cc in
    dim_passed c.args.dims.now c.args.used.now c.args.name.now c.loop-place.place-index c.loop-place-test.true c.loop-place.invariant c.index-dims-place.result (c.requires c.loop-place.place-index 0 c.loop-place-test.true) c.index-dims-place.is other

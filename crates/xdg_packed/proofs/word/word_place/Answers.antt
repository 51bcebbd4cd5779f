use Rattle.std.proofs.Common.{arith}
use Rattle.xdg_packed.proofs.Places.{dim_passed, no_dim_left}
use Rattle.xdg_packed.proofs.word.word_place.Goals as goal

pub loop-place-preserved : goal.loop-place-preserved
loop-place-preserved c = dim_passed c.dims-dims.result.now c.used-used.result.now c.loop-place.place c.loop-place-test.true c.in_default.ensures c.loop-place.invariant

pub returns : goal.returns
returns c = no_dim_left c.args.types.now c.dims-dims.result.now c.used-used.result.now c.loop-place.place c.dims-dims.ensures.same c.used-used.ensures.same (omega (arith, c.loop-place-test.false)) c.loop-place.invariant

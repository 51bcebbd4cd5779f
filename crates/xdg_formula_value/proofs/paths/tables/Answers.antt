use Rattle.std.proofs.Common.{ℕ, List, arith}
use Rattle.std.proofs.Math.ListN.{length-set}
use Rattle.xdg_formula_value.proofs.Tabled.{tells_skip, tells_more, tells_all}
use Rattle.xdg_formula_value.proofs.paths.tables.Goals as goal

pub loop-dim-preserved-then-not-dims-dim : goal.loop-dim-preserved-then-not-dims-dim
loop-dim-preserved-then-not-dims-dim c = (tells_skip c.args.way c.args.which c.args.store.now c.loop-dim.dim c.args.dims.now c.loop-dim.tables c.loop-dim.invariant.0 c.if-not-dims-dim.true, c.loop-dim.invariant.1)

pub loop-dim-preserved : goal.loop-dim-preserved
loop-dim-preserved c = (
  tells_more c.args.way c.args.which c.args.store.now c.loop-dim.dim c.args.dims.now c.loop-dim.tables c.loop-dim.invariant.0 c.table.result (let t = c.loop-dim-test.true in let n = c.loop-dim.invariant.1 in omega (arith, t, n)) c.table.ensures,
  (let n = c.loop-dim.invariant.1 in omega (arith, n, length-set {A = List (List ℕ)})),
)

pub returns : goal.returns
returns c = tells_all c.args.way c.args.which c.args.store.now c.loop-dim.dim c.args.dims.now c.loop-dim.tables (let past = c.loop-dim-test.false in omega (arith, past)) c.loop-dim.invariant.0

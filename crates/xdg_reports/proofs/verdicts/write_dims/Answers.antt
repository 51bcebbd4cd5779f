use Rattle.std.proofs.Common.{get_or}
use Rattle.std.proofs.lemmas.List.{get_or_default}
use Rattle.xdg_io.proofs.Parts.{next_of, stop_of}
use Rattle.xdg_reports.specs.VerdictsText.{dim_text}
use Rattle.xdg_reports.proofs.Verdicted.{zero_dim}
use Rattle.xdg_reports.proofs.verdicts.write_dims.Goals as goal

pub returns-in_err-write_constant_behind : goal.returns-in_err-write_constant_behind
returns-in_err-write_constant_behind g c =
    stop_of (dim_text c.args.parts.now) c.args.dims.now c.loop-dim.dim-index (get_or c.args.dims.now c.loop-dim.dim-index zero_dim) c.loop-dim-test.true (get_or_default _ _ _ _ c.loop-dim-test.true) c.loop-dim.invariant c.from_residual.ensures.0
    (rw c.dim_name.ensures at c.in_err-write_constant_behind.ensures)

pub loop-dim-preserved : goal.loop-dim-preserved
loop-dim-preserved g c =
    next_of (dim_text c.args.parts.now) c.args.dims.now c.loop-dim.dim-index (get_or c.args.dims.now c.loop-dim.dim-index zero_dim) c.loop-dim-test.true (get_or_default _ _ _ _ c.loop-dim-test.true) c.loop-dim.invariant
    (rw c.dim_name.ensures at c.in_ok-write_constant_behind.ensures)

use Rattle.xdg_io.proofs.Parts.{writes_both, writes_first}
use Rattle.xdg_text.proofs.values.write_tuple.Goals as goal

pub returns-in_err-keep : goal.returns-in_err-keep
returns-in_err-keep g c = writes_first _ c.from_residual.ensures.0 c.in_err-keep.ensures

pub returns-in_err-write_constants : goal.returns-in_err-write_constants
returns-in_err-write_constants g c = writes_both c.in_ok-keep.ensures (writes_first _ c.from_residual-in_err-write_constants.ensures.0 c.in_err-write_constants.ensures)

pub returns : goal.returns
returns g c = writes_both c.in_ok-keep.ensures (writes_both c.in_ok-write_constants.ensures c.write_all.ensures)

use Rattle.xdg_io.proofs.Parts.{writes_both, writes_first}
use Rattle.xdg_text.proofs.constants.write_quoted.Goals as goal

pub returns-in_err-keep : goal.returns-in_err-keep
returns-in_err-keep g c = writes_first _ c.from_residual.ensures.0 c.in_err-keep.ensures

pub returns-in_err-write_escaped : goal.returns-in_err-write_escaped
returns-in_err-write_escaped g c = writes_both c.in_ok-keep.ensures (writes_first _ c.from_residual-in_err-write_escaped.ensures.0 c.in_err-write_escaped.ensures)

pub returns : goal.returns
returns g c = writes_both c.in_ok-keep.ensures (writes_both c.in_ok-write_escaped.ensures c.write_all.ensures)

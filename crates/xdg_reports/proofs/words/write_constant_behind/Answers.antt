use Rattle.xdg_io.proofs.Parts.{writes_both, writes_first}
use Rattle.xdg_reports.proofs.words.write_constant_behind.Goals as goal

pub returns-in_err-keep : goal.returns-in_err-keep
returns-in_err-keep g c = writes_first _ c.from_residual.ensures.0 c.in_err-keep.ensures

pub returns : goal.returns
returns g c = writes_both c.in_ok-keep.ensures c.write_constant.ensures

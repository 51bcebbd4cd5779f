use Rattle.xdg_io.proofs.Parts.{writes_both, writes_first}
use Rattle.xdg_best.proofs.writing.write_answer.Goals as goal

pub returns-in_err-write_found : goal.returns-in_err-write_found
returns-in_err-write_found g c = writes_first _ c.from_residual.ensures.0 c.in_err-write_found.ensures

pub returns : goal.returns
returns g c = writes_both c.in_ok-write_found.ensures c.write_last.ensures

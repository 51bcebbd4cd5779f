use Rattle.xdg_io.proofs.Parts.{writes_both, writes_first}
use Rattle.xdg_best.proofs.writing.write_find.Goals as goal

pub returns-in_err-write : goal.returns-in_err-write
returns-in_err-write g c = writes_first _ c.from_residual.ensures.0 c.in_err-write.ensures

pub returns : goal.returns
returns g c = writes_both c.in_ok-write.ensures c.write_line.ensures

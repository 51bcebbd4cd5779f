use Rattle.xdg_io.proofs.Parts.{writes_both, writes_first}
use Rattle.xdg_searches.proofs.branch_printing.print_found.Goals as goal

pub returns-in_err-write_blocks : goal.returns-in_err-write_blocks
returns-in_err-write_blocks g c = writes_first _ c.from_residual.ensures.0 c.in_err-write_blocks.ensures

pub returns : goal.returns
returns g c = writes_both c.in_ok-write_blocks.ensures c.write_last.ensures

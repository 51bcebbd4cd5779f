use Rattle.xdg_io.proofs.Parts.{writes_both, writes_first}
use Rattle.xdg_text.proofs.blocks.write_head.Goals as goal

pub returns-in_err-write_inner_line-in-Two : goal.returns-in_err-write_inner_line-in-Two
returns-in_err-write_inner_line-in-Two g c = rw c.in-Two.is (writes_first _ c.from_residual.ensures.0 c.in_err-write_inner_line-in-Two.ensures)

pub returns-in_err-write_inner_line-in-Two-2 : goal.returns-in_err-write_inner_line-in-Two-2
returns-in_err-write_inner_line-in-Two-2 g c = rw c.in-Two.is (writes_both c.in_ok-write_inner_line-in-Two.ensures (writes_first _ c.from_residual-in_err-write_inner_line-in-Two-2.ensures.0 c.in_err-write_inner_line-in-Two-2.ensures))

pub returns-in_ok-write_inner_line-in-Two-2 : goal.returns-in_ok-write_inner_line-in-Two-2
returns-in_ok-write_inner_line-in-Two-2 g c = rw c.in-Two.is (writes_both c.in_ok-write_inner_line-in-Two.ensures (writes_both c.in_ok-write_inner_line-in-Two-2.ensures c.write_counts.ensures))

use Rattle.xdg_io.proofs.Parts.{writes_both, writes_first}
use Rattle.xdg_text.proofs.blocks.write_body.Goals as goal

pub returns-in_err-write_word_lines : goal.returns-in_err-write_word_lines
returns-in_err-write_word_lines g c = writes_first _ c.from_residual.ensures.0 c.in_err-write_word_lines.ensures

pub returns-in_err-write_attr_lines : goal.returns-in_err-write_attr_lines
returns-in_err-write_attr_lines g c = writes_both c.in_ok-write_word_lines.ensures (writes_first _ c.from_residual-in_err-write_attr_lines.ensures.0 c.in_err-write_attr_lines.ensures)

pub returns-in_err-write_edge_lines : goal.returns-in_err-write_edge_lines
returns-in_err-write_edge_lines g c = writes_both c.in_ok-write_word_lines.ensures (writes_both c.in_ok-write_attr_lines.ensures (writes_first _ c.from_residual-in_err-write_edge_lines.ensures.0 c.in_err-write_edge_lines.ensures))

pub returns : goal.returns
returns g c = writes_both c.in_ok-write_word_lines.ensures (writes_both c.in_ok-write_attr_lines.ensures (writes_both c.in_ok-write_edge_lines.ensures c.write_line.ensures))

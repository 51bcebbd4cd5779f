use Rattle.xdg_io.proofs.Parts.{writes_both, writes_first, writes_whole}
use Rattle.xdg_text.proofs.Pieces.{line_parts}
use Rattle.xdg_text.proofs.lines.write_inner_line.Goals as goal

pub returns-in_err-write_words : goal.returns-in_err-write_words
returns-in_err-write_words g c = writes_whole (line_parts c.args.first.now c.args.others.now) (writes_first _ c.from_residual.ensures.0 c.in_err-write_words.ensures)

pub returns : goal.returns
returns g c = writes_whole (line_parts c.args.first.now c.args.others.now) (writes_both c.in_ok-write_words.ensures c.keep.ensures)

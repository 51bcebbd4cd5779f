use Rattle.xdg_io.proofs.Parts.{writes_both, writes_first}
use Rattle.xdg_corpus.proofs.writing.write_sentence.Goals as goal

pub returns-in_err-write_line : goal.returns-in_err-write_line
returns-in_err-write_line g c = writes_first _ c.from_residual.ensures.0 c.in_err-write_line.ensures

pub returns : goal.returns
returns g c = writes_both c.in_ok-write_line.ensures c.write_own.ensures

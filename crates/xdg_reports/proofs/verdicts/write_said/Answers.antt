use Rattle.xdg_io.proofs.Parts.{writes_both, writes_first}
use Rattle.xdg_reports.proofs.verdicts.write_said.Goals as goal

pub returns-in_err-write_word-in-Broken : goal.returns-in_err-write_word-in-Broken
returns-in_err-write_word-in-Broken g c = rw c.in-Broken.is (writes_first _ c.from_residual.ensures.0 c.in_err-write_word-in-Broken.ensures)

pub returns-in_ok-write_word-in-Broken : goal.returns-in_ok-write_word-in-Broken
returns-in_ok-write_word-in-Broken g c = rw c.in-Broken.is (writes_both c.in_ok-write_word-in-Broken.ensures (rw c.numbers_of.ensures.numbers at c.write_condition.ensures))

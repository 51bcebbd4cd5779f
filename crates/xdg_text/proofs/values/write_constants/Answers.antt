use Rattle.xdg_io.proofs.Parts.{writes_both, writes_first}
use Rattle.xdg_text.proofs.values.write_constants.Goals as goal

pub returns-in_err-write_text-in-Some : goal.returns-in_err-write_text-in-Some
returns-in_err-write_text-in-Some g c = rw c.in-Some.ensures.cases.0 (writes_first _ c.from_residual.ensures.0 c.in_err-write_text-in-Some.ensures)

pub returns-in_ok-write_text-in-Some : goal.returns-in_ok-write_text-in-Some
returns-in_ok-write_text-in-Some g c = rw c.in-Some.ensures.cases.0 (writes_both c.in_ok-write_text-in-Some.ensures c.write_led_constants.ensures)

use Rattle.xdg_io.proofs.Parts.{writes_both, writes_first}
use Rattle.xdg_text.proofs.lines.write_words.Goals as goal

pub returns-in_err-write_plain : goal.returns-in_err-write_plain
returns-in_err-write_plain g c = writes_first _ c.from_residual.ensures.0 c.in_err-write_plain.ensures

pub returns : goal.returns
returns g c = writes_both c.in_ok-write_plain.ensures c.write_led_words.ensures

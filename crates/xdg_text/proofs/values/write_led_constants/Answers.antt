use Rattle.xdg_io.proofs.Parts.{next_of, stop_of}
use Rattle.xdg_text.specs.Values.{led_constant}
use Rattle.xdg_text.proofs.values.write_led_constants.Goals as goal

pub returns-in_err-write_led_constant : goal.returns-in_err-write_led_constant
returns-in_err-write_led_constant g c = stop_of led_constant c.args.texts.now c.loop-text.text-index c.text-item.result c.loop-text-test.true c.text-item.is c.loop-text.invariant c.from_residual.ensures.0 c.in_err-write_led_constant.ensures

pub loop-text-preserved : goal.loop-text-preserved
loop-text-preserved g c = next_of led_constant c.args.texts.now c.loop-text.text-index c.text-item.result c.loop-text-test.true c.text-item.is c.loop-text.invariant c.in_ok-write_led_constant.ensures

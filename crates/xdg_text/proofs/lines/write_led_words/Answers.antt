use Rattle.xdg_io.proofs.Parts.{next_of, stop_of}
use Rattle.xdg_text.specs.Words.{led_word}
use Rattle.xdg_text.proofs.lines.write_led_words.Goals as goal

pub returns-in_err-write_led_word : goal.returns-in_err-write_led_word
returns-in_err-write_led_word g c = stop_of led_word c.args.words.now c.loop-word.word-index c.word-item.result c.loop-word-test.true c.word-item.is c.loop-word.invariant c.from_residual.ensures.0 c.in_err-write_led_word.ensures

pub loop-word-preserved : goal.loop-word-preserved
loop-word-preserved g c = next_of led_word c.args.words.now c.loop-word.word-index c.word-item.result c.loop-word-test.true c.word-item.is c.loop-word.invariant c.in_ok-write_led_word.ensures

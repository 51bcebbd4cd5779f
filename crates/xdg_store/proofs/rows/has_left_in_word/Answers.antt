use Rattle.xdg_store.proofs.OneWord.{left_exact}
use Rattle.xdg_store.proofs.rows.has_left_in_word.Goals as goal

pub returns : goal.returns
returns c = left_exact c.args.word c.low_bits.result c.args.taken c.args.first c.args.size c.ranges.word.fits c.ranges.taken.fits c.low_bits.ensures

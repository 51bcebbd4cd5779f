use Rattle.xdg_store.proofs.OneWord.{word_exact}
use Rattle.xdg_store.proofs.rows.has_other_in_word.Goals as goal

pub returns : goal.returns
returns c = word_exact c.args.word c.low_bits.result c.bit_of.result c.args.first c.args.size c.args.value c.ranges.word.fits c.bit_of.type_inv c.low_bits.ensures c.bit_of.ensures

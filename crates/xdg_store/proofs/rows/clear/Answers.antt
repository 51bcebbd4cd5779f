use Rattle.xdg_store.proofs.Bits.{clears_of}
use Rattle.xdg_store.proofs.rows.clear.Goals as goal

pub returns : goal.returns
returns c = clears_of c.args.trail.now c.set.new.self c.args.bit c.word-word.result c.requires.set c.word-word.ensures c.set.ensures.words c.set.ensures.past c.set.ensures.room

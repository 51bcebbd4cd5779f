use Rattle.xdg_packed.proofs.WordLists.{index_next, as_many}
use Rattle.xdg_packed.proofs.words.index_words.Goals as goal

pub add-requires : goal.add-requires
add-requires c = as_many _ c.loop-i.made.words c.loop-i.made.numbers.items c.loop-i.invariant

pub loop-i-preserved : goal.loop-i-preserved
loop-i-preserved c =
    index_next c.args.dim c.args.field c.args.entries.now c.loop-i.i c.index-entries-i.result c.as_slice.result.now c.word_at-word.result.now c.loop-i.made.words c.add.new.self.words c.loop-i.made.numbers.items c.add.new.self.numbers.items
    c.loop-i-test.true c.index-entries-i.is c.as_slice.ensures c.word_at-word.ensures c.in_ok-add.ensures.index c.loop-i.invariant

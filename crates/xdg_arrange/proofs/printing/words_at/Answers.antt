use Rattle.xdg_arrange.proofs.Ordering.{no_word_more, word_more}
use Rattle.xdg_arrange.proofs.printing.words_at.Goals as goal

pub loop-rank-preserved-in_default : goal.loop-rank-preserved-in_default
loop-rank-preserved-in_default c = no_word_more c.args.words.now c.args.ranks.now c.loop-rank.rank-index c.from.result c.loop-rank-test.true c.from.ensures c.loop-rank.made c.loop-rank.invariant c.in_default.ensures.lookup.0

pub loop-rank-preserved : goal.loop-rank-preserved
loop-rank-preserved c =
    word_more c.args.words.now c.args.ranks.now c.loop-rank.rank-index c.from.result c.loop-rank-test.true c.from.ensures c.loop-rank.made c.loop-rank.invariant c.in-Some.word.now c.in_ok-copy.field-0 c.push.new.self c.in-Some.ensures.lookup.0 c.in-Some.ensures.lookup.1
    c.in_ok-copy.ensures c.in_ok-push.ensures.ok

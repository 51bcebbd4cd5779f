use Rattle.std.proofs.Common.{arith}
use Rattle.xdg_store.proofs.OneBlock.{clears_all, none_gone, some_gone, two_set}
use Rattle.xdg_store.proofs.rows.take_of_block.Goals as goal

pub returns-then-gone-eq0 : goal.returns-then-gone-eq0
returns-then-gone-eq0 c = (none_gone c.args.trail.now.words c.args.start c.args.size c.args.block c.args.taken c.word-word.result c.low_bits.result c.requires.first c.word-word.ensures c.word-word.type_inv c.low_bits.ensures c.if-gone-eq0.true, λ i. c.args.trail.now)

pub set-requires-clause-spare : goal.set-requires-clause-spare
set-requires-clause-spare c =
    let found = some_gone c.args.trail.now.words c.args.start c.args.size c.args.block c.args.taken c.word-word.result c.low_bits.result c.requires.first c.word-word.ensures c.word-word.type_inv c.low_bits.ensures c.if-gone-eq0.false in
    c.requires.room found.0 found.1 found.3 (two_set c.args.trail.now.words c.args.start c.args.size c.args.block c.args.taken c.word-word.result c.low_bits.result c.requires.first c.word-word.ensures c.word-word.type_inv c.low_bits.ensures (c.has_left.ensures.0 c.if-not-has_left.false) found.0 found.2)

pub returns : goal.returns
returns c =
    let found = some_gone c.args.trail.now.words c.args.start c.args.size c.args.block c.args.taken c.word-word.result c.low_bits.result c.requires.first c.word-word.ensures c.word-word.type_inv c.low_bits.ensures c.if-gone-eq0.false in
    let b = c.requires.block in
    let w = c.requires.within in
    let m = c.requires.first in (
      found,
      c.has_left.ensures.0 c.if-not-has_left.false,
      clears_all c.args.trail.now c.set.new.self c.args.start c.args.size c.args.block c.args.taken c.word-word.result c.low_bits.result m c.word-word.ensures c.word-word.type_inv c.low_bits.ensures (omega (arith, b, w, m)) c.if-gone-eq0.false c.set.ensures.words c.set.ensures.past c.set.ensures.room,
    )

use Rattle.std.proofs.Common.{refl}
use Rattle.xdg_store.proofs.OneBlock.{left_behind, left_in_row}
use Rattle.xdg_store.proofs.rows.has_left.Goals as goal

pub loop-place-preserved : goal.loop-place-preserved
loop-place-preserved c = left_behind c.args.trail.now.words c.args.start c.args.size c.args.block c.args.taken c.loop-place.place c.word-word.result c.taken_in-here.result c.requires.first c.word-word.ensures c.taken_in-here.ensures c.loop-place.invariant
    (λ h. (let t = c.has_left_in_word.ensures.1 h in let f = c.if-has_left_in_word.false in cc))

pub returns-then-has_left_in_word : goal.returns-then-has_left_in_word
returns-then-has_left_in_word c = (
  λ t. left_in_row c.args.trail.now.words c.args.start c.args.size c.args.block c.args.taken c.loop-place.place c.word-word.result c.taken_in-here.result c.requires.first c.word-word.ensures c.taken_in-here.ensures (c.has_left_in_word.ensures.0 c.if-has_left_in_word.true),
  λ h. refl,
)

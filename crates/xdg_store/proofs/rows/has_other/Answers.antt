use Rattle.std.proofs.Common.{refl}
use Rattle.xdg_store.proofs.OneWord.{in_row}
use Rattle.xdg_store.proofs.rows.has_other.Goals as goal

pub returns-then-has_other_in_word : goal.returns-then-has_other_in_word
returns-then-has_other_in_word c = (λ t. in_row c.args.trail.now.words c.args.start c.loop-place.place c.args.size c.args.value c.word-word.result c.requires.first c.word-word.ensures (c.has_other_in_word.ensures.0 c.if-has_other_in_word.true), λ h. refl)

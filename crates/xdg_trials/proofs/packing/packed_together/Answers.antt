use Rattle.std.proofs.Common.{sym, subst}
use Rattle.std.specs.Prelude.{All}
use Rattle.xdg_lexicon.proofs.Words.{as_long, have_words}
use Rattle.xdg_packed.specs.Lexicon.{AreAsLong, HasWord}
use Rattle.xdg_trials.proofs.packing.packed_together.Goals as goal

pub pack-requires-clause-words : goal.pack-requires-clause-words
pack-requires-clause-words c =
    subst (All (HasWord c.word_place-dim.result.0 c.word_place-dim.result.1)) (sym c.as_slice.ensures)
    (have_words c.args.expanded.now.checked.types c.word_place-dim.result.0 c.word_place-dim.result.1 c.in_ok-entries.entries c.word_place-dim.ensures.place c.in_ok-entries.ensures.right.entries)

pub pack-requires-clause-equal : goal.pack-requires-clause-equal
pack-requires-clause-equal c = subst AreAsLong (sym c.as_slice.ensures) (as_long c.args.expanded.now.checked.types c.in_ok-entries.entries c.in_ok-entries.ensures.right.entries)

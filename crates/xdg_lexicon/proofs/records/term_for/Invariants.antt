use Rattle.std.proofs.Common.{◌≡◌, drop}
use Rattle.xdg_terms.specs.Means.{written_for}
use Rattle.xdg_lexicon.specs.Partial.{written}
use Rattle.xdg_lexicon.proofs.records.term_for.Given as goal

abbrev pub invariant-loop-pair : goal.invariant-loop-pair
invariant-loop-pair l = written_for (written (drop l.pair-index l.pairs)) l.name ≡ written_for (written l.pairs) l.name

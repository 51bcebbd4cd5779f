use Rattle.std.proofs.Common.{take}
use Rattle.xdg_lexicon.specs.Denotes.{JoinsAll}
use Rattle.xdg_lexicon.specs.Partial.{ArePartial}
use Rattle.xdg_lexicon.proofs.conjunction.join_lists.Given as goal

abbrev pub invariant-loop-one : goal.invariant-loop-one
invariant-loop-one l = JoinsAll l.fn.dims (take l.one-index l.fn.first) l.fn.second l.made.items × ArePartial l.fn.dims l.made.items

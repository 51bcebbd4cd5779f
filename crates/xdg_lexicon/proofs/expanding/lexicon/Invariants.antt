use Rattle.xdg_lexicon.specs.Expanding.{IsRight, so_far}
use Rattle.xdg_lexicon.proofs.Stepping.{ExpandedSoFar}
use Rattle.xdg_lexicon.proofs.expanding.lexicon.Given as goal

abbrev pub invariant-loop-def : goal.invariant-loop-def
invariant-loop-def l = IsRight l.checked.types l.expanding × ExpandedSoFar l.checked l.entries l.def-index (so_far l.expanding)

use Rattle.std.proofs.Common.{◌≡◌, [], ◌∷◌, take}
use Rattle.xdg_problem.proofs.branching.with_first.Given as goal

abbrev pub invariant-loop-other : goal.invariant-loop-other
invariant-loop-other g l = l.made ≡ (l.fn.first ∷ []) ∷ take l.other-index l.others

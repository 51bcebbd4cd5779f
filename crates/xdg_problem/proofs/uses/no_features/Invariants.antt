use Rattle.std.proofs.Common.{◌≡◌, take}
use Rattle.xdg_problem.specs.Further.{no_features}
use Rattle.xdg_problem.proofs.uses.no_features.Given as goal

abbrev pub invariant-loop-entries : goal.invariant-loop-entries
invariant-loop-entries l = l.made ≡ no_features (take l.entries-index l.candidates)

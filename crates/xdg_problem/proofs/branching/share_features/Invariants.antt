use Rattle.std.proofs.Common.{◌≡◌, take}
use Rattle.xdg_problem.proofs.branching.share_features.Given as goal

abbrev pub invariant-loop-feature : goal.invariant-loop-feature
invariant-loop-feature l = l.made ≡ take l.feature-index l.features

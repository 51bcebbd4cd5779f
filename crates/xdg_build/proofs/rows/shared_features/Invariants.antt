use Rattle.std.proofs.Common.{◌≡◌, take}
use Rattle.xdg_build.proofs.rows.shared_features.Given as goal

abbrev pub invariant-loop-feature : goal.invariant-loop-feature
invariant-loop-feature l = l.made.items ≡ take l.feature-index l.features

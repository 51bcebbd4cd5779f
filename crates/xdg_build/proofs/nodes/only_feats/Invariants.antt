use Rattle.std.proofs.Common.{◌≡◌, take}
use Rattle.xdg_build.specs.Nodes.{only_feats}
use Rattle.xdg_build.proofs.nodes.only_feats.Given as goal

abbrev pub invariant-loop-group : goal.invariant-loop-group
invariant-loop-group l = l.made ≡ only_feats (take l.group-index l.groups)

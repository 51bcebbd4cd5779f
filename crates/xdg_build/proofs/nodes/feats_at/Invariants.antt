use Rattle.std.proofs.Common.{◌≡◌, take}
use Rattle.xdg_build.specs.Nodes.{feats_at}
use Rattle.xdg_build.proofs.nodes.feats_at.Given as goal

abbrev pub invariant-loop-node : goal.invariant-loop-node
invariant-loop-node l = l.made ≡ feats_at l.place (take l.node-index l.nodes)

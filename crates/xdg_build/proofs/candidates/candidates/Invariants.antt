use Rattle.std.proofs.Common.{◌≡◌, take}
use Rattle.xdg_build.specs.Nodes.{candidates_in}
use Rattle.xdg_build.proofs.candidates.candidates.Given as goal

abbrev pub invariant-loop-node : goal.invariant-loop-node
invariant-loop-node l = l.made ≡ candidates_in (take l.node-index l.nodes)

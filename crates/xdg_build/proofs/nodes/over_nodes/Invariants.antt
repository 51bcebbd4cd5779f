use Rattle.std.proofs.Common.{◌≡◌, map, take}
use Rattle.xdg_build.specs.Grammars.{grammar_of}
use Rattle.xdg_build.specs.Groups.{group_of, used_uses}
use Rattle.xdg_build.specs.Nodes.{candidates_in}
use Rattle.xdg_build.proofs.nodes.over_nodes.Given as goal

abbrev pub invariant-loop-place : goal.invariant-loop-place
invariant-loop-place l = l.made ≡ map (group_of (grammar_of l.checked l.packed) (candidates_in l.nodes)) (take l.place (used_uses (grammar_of l.checked l.packed)))

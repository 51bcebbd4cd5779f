use Rattle.std.proofs.Common.{◌≡◌, map, take}
use Rattle.xdg_types.specs.Written.{tree}
use Rattle.xdg_types.specs.Graph as spec
use Rattle.xdg_typing.proofs.graph.type_graph.Given as goal

abbrev pub invariant-loop-body : goal.invariant-loop-body
invariant-loop-body l = l.made.items ≡ map (λ body. spec.uses_in l.known (tree body.now.kind)) (take l.body-index l.bodies)

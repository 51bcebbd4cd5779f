use Rattle.std.proofs.Common.{◌≡◌, map, take, flat_map}
use Rattle.xdg_types.specs.Graph.{use_of}
use Rattle.xdg_classes.specs.Lent.{called}
use Rattle.xdg_classes.proofs.graph.class_uses.Given as goal

abbrev pub invariant-loop-call : goal.invariant-loop-call
invariant-loop-call l = l.made ≡ flat_map (λ call. use_of l.known call.name) (map called (take l.call-index l.call-items))

use Rattle.std.proofs.Common.{◌≡◌, ◌++◌, flat_map, take}
use Rattle.xdg_types.specs.Written.{tree}
use Rattle.xdg_types.specs.Graph as spec
use Rattle.xdg_typing.proofs.graph.+add_uses.Given as goal

abbrev pub invariant-loop-field : goal.invariant-loop-field
invariant-loop-field l = l.made ≡ l.initial.made ++ flat_map (λ field. spec.uses_in l.known (tree field.kind)) (take l.field-index l.field-items)

abbrev pub invariant-loop-pair : goal.invariant-loop-pair
invariant-loop-pair l = l.made ≡ l.initial.made ++ flat_map (λ pair. spec.uses_in l.known (tree pair.value.kind)) (take l.pair-index l.pair-items)

use Rattle.std.proofs.Common.{◌≡◌, ◌++◌, drop, take}
use Rattle.std.specs.List.{flat_map}
use Rattle.xdg_domain.specs.Shapes.{shape}
use Rattle.xdg_terms.specs.Faults.{fields_in}
use Rattle.xdg_terms.specs.Wanted as spec
use Rattle.xdg_terms.proofs.wants.+add_params.Given as goal

abbrev pub invariant-add_values-loop-elem : goal.invariant-add_values-loop-elem
invariant-add_values-loop-elem l =
    spec.wants_of l.found.items ≡ spec.wants_of l.initial.found.items ++ flat_map (spec.value_params l.params (shape l.value)) (take l.elem-index l.elems)

abbrev pub invariant-add_parts-loop-elem : goal.invariant-add_parts-loop-elem
invariant-add_parts-loop-elem l =
    spec.wants_of l.found.items ≡ spec.wants_of l.initial.found.items ++ flat_map (spec.part_params l.params (fields_in l.fields)) (take l.elem-index l.elems)

abbrev pub invariant-add_under-loop-name : goal.invariant-add_under-loop-name
invariant-add_under-loop-name l =
    (spec.params_under l.params (fields_in (drop l.name-index l.fields)) (l.key, l.term) ≡ spec.params_under l.params (fields_in l.fields) (l.key, l.term)) × (l.found.items ≡ l.initial.found.items)

use Rattle.std.proofs.Common.{◌≡◌, drop}
use Rattle.std.specs.List.{flat_map}
use Rattle.xdg_domain.specs.Shapes.{shape}
use Rattle.xdg_names.specs.First.{first, earlier}
use Rattle.xdg_terms.specs.Faults as spec
use Rattle.xdg_terms.specs.Readings.{look_of}
use Rattle.xdg_terms.proofs.checking.+check_term.Given as goal

abbrev pub invariant-check_values-loop-elem : goal.invariant-check_values-loop-elem
invariant-check_values-loop-elem l =
    earlier l.found (first (flat_map (spec.value_faults (look_of l.reading) (shape l.value)) (drop l.elem-index l.elems))) ≡ first (flat_map (spec.value_faults (look_of l.reading) (shape l.value)) l.elems)

abbrev pub invariant-check_parts-loop-elem : goal.invariant-check_parts-loop-elem
invariant-check_parts-loop-elem l =
    earlier l.found (first (flat_map (spec.elem_faults (look_of l.reading) (spec.fields_in l.fields)) (drop l.elem-index l.elems))) ≡ first (flat_map (spec.elem_faults (look_of l.reading) (spec.fields_in l.fields)) l.elems)

abbrev pub invariant-check_under-loop-name : goal.invariant-check_under-loop-name
invariant-check_under-loop-name l =
    first (spec.field_faults (look_of l.reading) (spec.fields_in (drop l.name-index l.fields)) (l.key, l.term)) ≡ first (spec.field_faults (look_of l.reading) (spec.fields_in l.fields) (l.key, l.term))

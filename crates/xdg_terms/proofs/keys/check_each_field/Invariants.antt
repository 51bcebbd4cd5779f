use Rattle.std.proofs.Common.{◌≡◌, drop}
use Rattle.xdg_base.specs.declared.faults.Cause.TheVariants as causes
use Rattle.xdg_domain.specs.Shapes.{names_of}
use Rattle.std.specs.List.{flat_map}
use Rattle.xdg_names.specs.First.{first, earlier}
use Rattle.xdg_terms.specs.Faults as spec
use Rattle.xdg_terms.proofs.keys.check_each_field.Given as goal

abbrev pub invariant-loop-elem : goal.invariant-loop-elem
invariant-loop-elem l = earlier l.found (first (flat_map (spec.key_faults (spec.missing causes.UnknownName (names_of (spec.fields_in l.fields)))) (drop l.elem-index l.elems))) ≡ first (flat_map (spec.key_faults (spec.missing causes.UnknownName (names_of (spec.fields_in l.fields)))) l.elems)

use Rattle.std.proofs.Common.{◌≡◌, drop}
use Rattle.xdg_base.specs.declared.faults.Cause.TheVariants as causes
use Rattle.std.specs.List.{flat_map}
use Rattle.xdg_names.specs.First.{first, earlier}
use Rattle.xdg_terms.specs.Faults as spec
use Rattle.xdg_terms.proofs.keys.check_each_key.Given as goal

abbrev pub invariant-loop-elem : goal.invariant-loop-elem
invariant-loop-elem l = earlier l.found (first (flat_map (spec.key_faults (spec.missing causes.NotMember l.texts)) (drop l.elem-index l.elems))) ≡ first (flat_map (spec.key_faults (spec.missing causes.NotMember l.texts)) l.elems)

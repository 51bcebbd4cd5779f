use Rattle.std.proofs.Common.{◌≡◌, drop, map}
use Rattle.xdg_base.specs.declared.faults.Cause.TheVariants as causes
use Rattle.xdg_domain.specs.Shapes as shapes
use Rattle.xdg_domain.specs.Shapes.{shape, shapes_of}
use Rattle.std.specs.List.{flat_map}
use Rattle.xdg_names.specs.First.{first, earlier}
use Rattle.xdg_terms.specs.Offences.{gen_names}
use Rattle.xdg_terms.specs.Faults as spec
use Rattle.xdg_terms.proofs.sets.+check_generator.Given as goal

abbrev pub invariant-check_generators-loop-member : goal.invariant-check_generators-loop-member
invariant-check_generators-loop-member l = earlier l.found (first (spec.all_missing causes.NotMember (shapes.in_a_row (shapes.constants_of (shapes_of (map shape l.types)))) (flat_map (λ member. gen_names member.kind) (drop l.member-index l.members)))) ≡ first (spec.all_missing causes.NotMember (shapes.in_a_row (shapes.constants_of (shapes_of (map shape l.types)))) (flat_map (λ member. gen_names member.kind) l.members))

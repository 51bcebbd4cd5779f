use Rattle.std.proofs.Common.{◌≡◌, ◌++◌, map, flat_map, take}
use Rattle.xdg_classes.specs.Bodies as spec
use Rattle.xdg_classes.specs.Lent.{said}
use Rattle.xdg_classes.proofs.bodies.+add_records.Given as goal

abbrev pub invariant-loop-member : goal.invariant-loop-member
invariant-loop-member l = map said l.made ≡ map said l.initial.made ++ flat_map (λ member. spec.records (spec.body member.kind)) (take l.member-index l.member-items)

abbrev pub invariant-loop-member-2 : goal.invariant-loop-member-2
invariant-loop-member-2 l = map said l.made ≡ map said l.initial.made ++ flat_map (λ member. spec.records (spec.body member.kind)) (take l.member-index l.member-items)

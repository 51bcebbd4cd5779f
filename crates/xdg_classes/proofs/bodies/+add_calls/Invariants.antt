use Rattle.std.proofs.Common.{◌≡◌, ◌++◌, map, flat_map, take}
use Rattle.xdg_classes.specs.Bodies as spec
use Rattle.xdg_classes.specs.Lent.{called}
use Rattle.xdg_classes.proofs.bodies.+add_calls.Given as goal

abbrev pub invariant-loop-member : goal.invariant-loop-member
invariant-loop-member l = map called l.made ≡ map called l.initial.made ++ flat_map (λ member. spec.calls (spec.body member.kind)) (take l.member-index l.member-items)

abbrev pub invariant-loop-member-2 : goal.invariant-loop-member-2
invariant-loop-member-2 l = map called l.made ≡ map called l.initial.made ++ flat_map (λ member. spec.calls (spec.body member.kind)) (take l.member-index l.member-items)

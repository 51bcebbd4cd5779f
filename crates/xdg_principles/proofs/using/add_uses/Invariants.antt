use Rattle.std.proofs.Common.{◌≡◌, ◌++◌, map, take}
use Rattle.xdg_principles.specs.Uses as spec
use Rattle.xdg_principles.proofs.using.add_uses.Given as goal

abbrev pub invariant-loop-part : goal.invariant-loop-part
invariant-loop-part l = map spec.told l.made ≡ map spec.told l.initial.made ++ map spec.with_principle (spec.uses_by l.within (take l.part-index l.parts))

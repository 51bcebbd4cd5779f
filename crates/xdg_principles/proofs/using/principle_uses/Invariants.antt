use Rattle.std.proofs.Common.{◌≡◌, map, take}
use Rattle.xdg_principles.specs.Uses as spec
use Rattle.xdg_principles.proofs.using.principle_uses.Given as goal

abbrev pub invariant-loop-statement : goal.invariant-loop-statement
invariant-loop-statement l = map spec.told l.made ≡ map spec.with_principle (spec.principle_uses (take l.statement-index l.statements))

use Rattle.std.proofs.Common.{◌≡◌, drop, take, []}
use Rattle.xdg_names.specs.First.{first, earlier}
use Rattle.xdg_terms.specs.Faults as spec
use Rattle.xdg_terms.proofs.keys.check_twice.Given as goal

abbrev pub invariant-loop-at : goal.invariant-loop-at
invariant-loop-at l = earlier l.found (first (spec.all_twice (spec.keys (take l.at l.elems)) (spec.keys (drop l.at l.elems)))) ≡ first (spec.all_twice [] (spec.keys l.elems))

use Rattle.std.proofs.Common.{◌≡◌, [], drop, take}
use Rattle.xdg_names.specs.First.{first, earlier}
use Rattle.xdg_terms.specs.Faults.{all_twice}
use Rattle.xdg_formula.specs.Formulas.{names_of}
use Rattle.xdg_formula.proofs.checking.check_names.Given as goal

abbrev pub invariant-loop-at : goal.invariant-loop-at
invariant-loop-at l = earlier l.found (first (all_twice (names_of (take l.at l.rules)) (names_of (drop l.at l.rules)))) ≡ first (all_twice [] (names_of l.rules))

use Rattle.std.proofs.Common.{◌≡◌, drop}
use Rattle.std.specs.List.{flat_map}
use Rattle.xdg_names.specs.First.{first, earlier}
use Rattle.xdg_terms.specs.Faults as spec
use Rattle.xdg_terms.proofs.cards.check_numbers.Given as goal

abbrev pub invariant-loop-number : goal.invariant-loop-number
invariant-loop-number l = earlier l.found (first (flat_map spec.too_big (drop l.number-index l.numbers))) ≡ first (flat_map spec.too_big l.numbers)

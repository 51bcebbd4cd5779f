use Rattle.std.proofs.Common.{◌≡◌, [], drop}
use Rattle.xdg_names.specs.First.{first, earlier}
use Rattle.xdg_types.specs.NameFaults as spec
use Rattle.xdg_types.proofs.names.names_again.Given as goal

abbrev pub invariant-loop-name : goal.invariant-loop-name
invariant-loop-name l = earlier l.found (first (spec.repeats l.seen (drop l.name-index l.names))) ≡ first (spec.repeats [] l.names)

use Rattle.std.proofs.Common.{drop}
use Rattle.xdg_types.proofs.FaultTurns.{FoundSoFar}
use Rattle.xdg_principles.specs.Names.{arg_keys}
use Rattle.xdg_types.specs.NameFaults.{foreign}
use Rattle.xdg_types.specs.Parts.{keys}
use Rattle.xdg_principles.proofs.names.foreign_args.Given as goal

abbrev pub invariant-loop-pair : goal.invariant-loop-pair
invariant-loop-pair l = FoundSoFar l.found (foreign (arg_keys l.form)) (keys (drop l.pair-index l.pairs)) (keys l.pairs)

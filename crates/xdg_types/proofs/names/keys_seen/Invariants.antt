use Rattle.std.proofs.Common.{drop}
use Rattle.xdg_types.proofs.Again.{SeenSoFar}
use Rattle.xdg_types.specs.Parts.{keys}
use Rattle.xdg_types.proofs.names.keys_seen.Given as goal

abbrev pub invariant-loop-pair : goal.invariant-loop-pair
invariant-loop-pair g l = SeenSoFar l.found l.seen (keys (drop l.pair-index l.pairs)) l.initial.seen (keys l.pairs)

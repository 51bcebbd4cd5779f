use Rattle.std.proofs.Common.{◌≡◌, drop}
use Rattle.xdg_principles.specs.Uses as spec
use Rattle.xdg_principles.proofs.keys.under.Given as goal

abbrev pub invariant-loop-pair : goal.invariant-loop-pair
invariant-loop-pair g l = spec.under (drop l.pair-index l.pairs) l.key ≡ spec.under l.pairs l.key

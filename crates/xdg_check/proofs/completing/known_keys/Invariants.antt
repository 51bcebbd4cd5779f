use Rattle.std.proofs.Common.{◌≡◌, drop}
use Rattle.xdg_types.specs.NameFaults.{with_all, different}
use Rattle.xdg_types.specs.Parts.{keys}
use Rattle.xdg_check.proofs.completing.known_keys.Given as goal

abbrev pub invariant-loop-pair : goal.invariant-loop-pair
invariant-loop-pair l = with_all l.known (keys (drop l.pair-index l.args)) ≡ different (keys l.args)

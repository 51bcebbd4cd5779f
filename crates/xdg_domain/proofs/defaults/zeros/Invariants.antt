use Rattle.std.proofs.Common.{◌≡◌, [], ◌∷◌}
use Rattle.xdg_domain.specs.Keys.{KeysBelow}
use Rattle.xdg_domain.specs.Defaults.{for_each_key}
use Rattle.xdg_domain.proofs.defaults.zeros.Given as goal

abbrev pub invariant-loop-key : goal.invariant-loop-key
invariant-loop-key l = KeysBelow l.key l.map × (l.map ≡ for_each_key l.key (0 ∷ []))

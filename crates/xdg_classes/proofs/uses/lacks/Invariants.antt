use Rattle.std.proofs.Common.{◌≡◌, map, drop}
use Rattle.xdg_classes.specs.NameFaults as spec
use Rattle.xdg_classes.proofs.uses.lacks.Given as goal

abbrev pub invariant-loop-text : goal.invariant-loop-text
invariant-loop-text l = spec.lacks l.given (map (λ text. text.now) (drop l.text-index l.needed)) ≡ spec.lacks l.given (map (λ text. text.now) l.needed)

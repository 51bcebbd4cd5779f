use Rattle.std.proofs.Common.{◌∷◌, [], take}
use Rattle.std.specs.List.{flat_map}
use Rattle.xdg_classes.specs.Given as spec
use Rattle.xdg_classes.proofs.Growing.{want}
use Rattle.xdg_classes.proofs.collecting.add_all.Given as goal

abbrev pub invariant-loop-one : goal.invariant-loop-one
invariant-loop-one l = spec.Grows l.initial.wants l.wants (flat_map (λ found. want found ∷ []) (take l.one-index l.found))

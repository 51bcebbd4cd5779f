use Rattle.std.proofs.Common.{take}
use Rattle.std.specs.List.{flat_map}
use Rattle.xdg_classes.specs.Lent.{said}
use Rattle.xdg_classes.specs.Given as spec
use Rattle.xdg_classes.specs.Collected as all
use Rattle.xdg_classes.proofs.collecting.add_records.Given as goal

abbrev pub invariant-loop-one : goal.invariant-loop-one
invariant-loop-one l = spec.Grows l.initial.wants l.wants (flat_map (λ r. all.record_wants (all.feature_of l.features) l.params (said r)) (take l.one-index l.records))

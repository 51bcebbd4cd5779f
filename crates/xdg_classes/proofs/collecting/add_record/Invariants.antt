use Rattle.std.proofs.Common.{take}
use Rattle.std.specs.List.{flat_map}
use Rattle.xdg_classes.specs.Given as spec
use Rattle.xdg_classes.specs.Collected as all
use Rattle.xdg_classes.proofs.collecting.add_record.Given as goal

abbrev pub invariant-loop-pair : goal.invariant-loop-pair
invariant-loop-pair l = spec.Grows l.initial.wants l.wants (flat_map (all.pair_wants (all.feature_of l.features) l.params l.one.dim.now.text) (take l.pair-index l.pair-items))

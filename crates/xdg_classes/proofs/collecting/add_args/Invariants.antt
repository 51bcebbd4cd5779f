use Rattle.std.proofs.Common.{take}
use Rattle.std.specs.List.{flat_map}
use Rattle.xdg_classes.specs.Given as spec
use Rattle.xdg_classes.specs.Collected as all
use Rattle.xdg_classes.proofs.collecting.add_args.Given as goal

abbrev pub invariant-loop-arg : goal.invariant-loop-arg
invariant-loop-arg l = spec.Grows l.initial.wants l.wants (flat_map (all.arg_wants (spec.given l.used) l.params) (take l.arg-index l.args))

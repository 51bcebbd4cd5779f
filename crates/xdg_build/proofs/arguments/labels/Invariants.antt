use Rattle.std.proofs.Common.{◌≡◌, take}
use Rattle.std.specs.Prelude.{flat_map}
use Rattle.xdg_build.specs.Groups.{labels_in}
use Rattle.xdg_build.proofs.arguments.labels.Given as goal

abbrev pub invariant-loop-arg : goal.invariant-loop-arg
invariant-loop-arg l = l.made ≡ flat_map labels_in (take l.arg-index l.args)

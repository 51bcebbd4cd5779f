use Rattle.std.proofs.Common.{◌≡◌, take}
use Rattle.std.specs.Prelude.{flat_map}
use Rattle.xdg_build.specs.Groups.{attrs_in}
use Rattle.xdg_build.proofs.arguments.attrs.Given as goal

abbrev pub invariant-loop-arg : goal.invariant-loop-arg
invariant-loop-arg l = l.made ≡ flat_map attrs_in (take l.arg-index l.args)

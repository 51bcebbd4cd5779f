use Rattle.std.proofs.Common.{◌≡◌, ◌++◌, drop}
use Rattle.xdg_check.specs.Completed.{left_out}
use Rattle.xdg_check.proofs.completing.add_left_out.Given as goal

abbrev pub invariant-loop-param : goal.invariant-loop-param
invariant-loop-param l = l.made ++ left_out l.known (drop l.param-index l.params) ≡ l.initial.made ++ left_out l.known l.params

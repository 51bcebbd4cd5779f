use Rattle.std.proofs.Common.{ℕ, ◌+◌, take}
use Rattle.xdg_check.specs.Weights.{left_out_bytes, IsCountOf}
use Rattle.xdg_check.proofs.weighing.with_params.Given as goal

abbrev pub invariant-loop-param : goal.invariant-loop-param
invariant-loop-param l = (all : ℕ) → IsCountOf l.so_far all → IsCountOf l.bytes (all + left_out_bytes l.known (take l.param-index l.params))

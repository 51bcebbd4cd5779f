use Rattle.std.proofs.Common.{ℕ, ◌+◌, map, take}
use Rattle.std.specs.List.{sum_by}
use Rattle.xdg_classes.specs.Lent.{class_def, called}
use Rattle.xdg_check.specs.Made.{IsNamed}
use Rattle.xdg_check.specs.Weights.{call_bytes, IsCountOf}
use Rattle.xdg_check.proofs.weighing.with_body.Given as goal

abbrev pub invariant-loop-call : goal.invariant-loop-call
invariant-loop-call l = IsNamed l.classes → (all : ℕ) → IsCountOf l.so_far all → IsCountOf l.bytes (all + sum_by (λ call. call_bytes (map class_def l.classes.definitions) (called call)) (take l.call-index l.call-items))

use Rattle.std.proofs.Common.{◌≡◌, drop}
use Rattle.xdg_ast.specs.Trees.{nums_words}
use Rattle.xdg_print.specs.Printed.{put}
use Rattle.xdg_print.proofs.printer.Printer.nums.Given as goal

abbrev pub invariant-loop-num : goal.invariant-loop-num
invariant-loop-num l = put (nums_words (drop l.num-index l.nums)) l.self ≡ put (nums_words l.nums) l.initial.self

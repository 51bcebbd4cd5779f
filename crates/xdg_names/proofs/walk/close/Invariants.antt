use Rattle.std.proofs.Common.{length}
use Rattle.xdg_names.specs.Walks.{IsClosingGroup}
use Rattle.xdg_names.proofs.walk.close.Given as goal

abbrev pub invariant-close : goal.invariant-close
invariant-close l = IsClosingGroup (length l.fn.marks.items) l.first l.given l.fn.marks.items l.fn.order.items l.marks.items l.stack.items l.order.items

abbrev pub decreases-close : goal.decreases-close
decreases-close l = length l.stack.items

use Rattle.std.proofs.Common.{length}
use Rattle.xdg_names.proofs.Merging.{IsMerging}
use Rattle.xdg_names.proofs.walk.merge.Given as goal

abbrev pub invariant-merge : goal.invariant-merge
invariant-merge l = IsMerging l.marks l.top l.fn.starts.items l.starts.items

abbrev pub decreases-merge : goal.decreases-merge
decreases-merge l = length l.starts.items

use Rattle.std.proofs.Common.{List, All, length}
use Rattle.std.specs.List.{AllZip}
use Rattle.xdg_split.specs.Asked.{Asked}
use Rattle.xdg_split.specs.Slots.{Fits, IsPlaced}
use Rattle.xdg_split.proofs.slots.put_all.Given as goal

abbrev pub invariant-loop-found : goal.invariant-loop-found
invariant-loop-found l = (jobs : List Asked) → All (IsPlaced jobs) l.initial.share → AllZip Fits jobs l.initial.slots.items → All (IsPlaced jobs) l.share × AllZip Fits jobs l.slots.items

abbrev pub decreases-loop-found : goal.decreases-loop-found
decreases-loop-found l = length l.share

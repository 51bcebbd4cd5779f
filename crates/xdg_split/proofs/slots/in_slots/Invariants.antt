use Rattle.std.proofs.Common.{All, IfOk, length}
use Rattle.std.specs.List.{AllZip}
use Rattle.xdg_split.specs.Slots.{Fits, IsPlaced}
use Rattle.xdg_split.proofs.slots.in_slots.Given as goal

abbrev pub invariant-loop-share : goal.invariant-loop-share
invariant-loop-share g l = All (λ share. IfOk share (λ found. All (IsPlaced l.jobs) found)) l.shares.items × AllZip Fits l.jobs l.slots.items

abbrev pub decreases-loop-share : goal.decreases-loop-share
decreases-loop-share g l = length l.shares.items

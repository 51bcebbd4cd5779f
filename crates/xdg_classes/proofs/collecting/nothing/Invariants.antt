use Rattle.std.proofs.Common.{◌≡◌, length}
use Rattle.xdg_classes.proofs.collecting.nothing.Given as goal

abbrev pub invariant-loop-class : goal.invariant-loop-class
invariant-loop-class l = length l.known.items ≡ l._class-index

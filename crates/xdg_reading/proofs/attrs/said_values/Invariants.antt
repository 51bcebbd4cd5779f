use Rattle.std.proofs.Common.{◌≡◌, drop, map}
use Rattle.xdg_reading.specs.Fitted.{leads, said_values}
use Rattle.xdg_reading.specs.Slots.{asked_by}
use Rattle.xdg_reading.proofs.attrs.said_values.Given as goal

abbrev pub invariant-loop-k : goal.invariant-loop-k
invariant-loop-k l = leads l.values (said_values l.behind (map asked_by (drop l.k l.slots)) (drop l.k l.lines)) ≡ said_values l.behind (map asked_by l.slots) l.lines

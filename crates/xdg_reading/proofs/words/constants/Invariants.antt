use Rattle.std.proofs.Common.{◌≡◌, ◌-◌, length}
use Rattle.xdg_reading.specs.Pieces.{leads, constants_at}
use Rattle.xdg_reading.proofs.words.constants.Given as goal

-- what was read before what is left is what is read of all
abbrev pub invariant-loop : goal.invariant-loop
invariant-loop l = leads l.texts (constants_at (l.end - l.counter) l.cursor) ≡ constants_at (length l.initial.cursor) l.initial.cursor

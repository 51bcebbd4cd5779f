use Rattle.std.proofs.Common.{◌≡◌, length, false}
use Rattle.xdg_reading.specs.Pieces.{leads, inside}
use Rattle.xdg_reading.proofs.cursor.Cursor.inside.Given as goal

-- what was read before what is left is what is read of all
abbrev pub invariant-pieces : goal.invariant-pieces
invariant-pieces l = leads l.text (inside false l.self) ≡ inside false l.initial.self

abbrev pub decreases-pieces : goal.decreases-pieces
decreases-pieces l = length l.self

use Rattle.std.proofs.Common.{length}
use Rattle.xdg_reading.specs.Gathered.{SoFar}
use Rattle.xdg_reading.proofs.reading.read_lines.Given as goal

abbrev pub invariant-lines : goal.invariant-lines
invariant-lines l = SoFar l.text l.stage l.cursor l.read

abbrev pub decreases-lines : goal.decreases-lines
decreases-lines l = length l.cursor

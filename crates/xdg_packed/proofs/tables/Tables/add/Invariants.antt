use Rattle.std.proofs.Common.{length}
use Rattle.xdg_packed.proofs.Growing.{Entered}
use Rattle.xdg_packed.proofs.tables.Tables.add.Given as goal

abbrev pub invariant-loop-fields : goal.invariant-loop-fields
invariant-loop-fields l = Entered l.fn.self.tables.items l.fn.entry l.rest l.self.tables.items l.self.spellings.items

abbrev pub decreases-loop-fields : goal.decreases-loop-fields
decreases-loop-fields l = length l.rest

use Rattle.std.proofs.Common.{◌≤◌}
use Rattle.xdg_names.specs.Leads.{number}
use Rattle.xdg_names.specs.Walks.{GoesOn, turns}
use Rattle.xdg_names.proofs.walk.Walk.visit.Given as goal

abbrev pub invariant-walk : goal.invariant-walk
invariant-walk l = record { goes : GoesOn l.graph l.fn.self l.self; met : 1 ≤ number l.self.marks.items l.root }

abbrev pub decreases-walk : goal.decreases-walk
decreases-walk l = turns l.self.left.items l.self.path.items

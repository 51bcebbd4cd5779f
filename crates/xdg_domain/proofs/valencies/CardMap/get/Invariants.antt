use Rattle.std.proofs.Common.{◌≡◌, drop}
use Rattle.xdg_domain.specs.Valencies.{said_at}
use Rattle.xdg_domain.proofs.valencies.CardMap.get.Given as goal

abbrev pub invariant-loop-entry : goal.invariant-loop-entry
invariant-loop-entry l = said_at (drop l.entry-index l.entry-items) l.key ≡ said_at l.entry-items l.key

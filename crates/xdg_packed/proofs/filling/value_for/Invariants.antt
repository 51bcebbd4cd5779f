use Rattle.std.proofs.Common.{◌≡◌, drop}
use Rattle.xdg_domain.specs.Valencies.{said_at}
use Rattle.xdg_packed.proofs.filling.value_for.Given as goal

abbrev pub invariant-loop-entry : goal.invariant-loop-entry
invariant-loop-entry l = said_at (drop l.entry-index l.entries) l.key ≡ said_at l.entries l.key

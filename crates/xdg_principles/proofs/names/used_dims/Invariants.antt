use Rattle.std.proofs.Common.{◌≡◌, drop}
use Rattle.xdg_types.specs.NameFaults.{with_all, different}
use Rattle.xdg_types.specs.Parts.{used_names}
use Rattle.xdg_principles.proofs.names.used_dims.Given as goal

abbrev pub invariant-loop-statement : goal.invariant-loop-statement
invariant-loop-statement l = with_all l.known (used_names (drop l.statement-index l.statements)) ≡ different (used_names l.statements)

use Rattle.std.proofs.Common.{ℕ}
use Rattle.xdg_pgraph.specs.Allowances.{AreClasses}
use Rattle.xdg_pgraph.proofs.Barring.{Gathers}
use Rattle.xdg_pgraph.proofs.bounds.barred_entries.Given as goal

abbrev pub invariant-loop-class : goal.invariant-loop-class
invariant-loop-class l = (count : ℕ) → AreClasses count l.group l.bundle l.classes → Gathers l.group l.bundle l.least l.most l.classes l.class-index l.barred

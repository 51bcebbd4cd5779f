use Rattle.std.proofs.Common.{◌<◌}
use Rattle.xdg_problem.specs.Places.{nodes}
use Rattle.xdg_pmulti.specs.Aims.{Blocks}
use Rattle.xdg_pmulti.proofs.Blocked.{Filled}
use Rattle.xdg_pmulti.proofs.blocking.blocking.Given as goal

abbrev pub invariant-loop-label : goal.invariant-loop-label
invariant-loop-label l = Filled (λ label node. (node < nodes l.store.parts) × Blocks l.group l.store.now node label) l.label l.table

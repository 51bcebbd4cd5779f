use Rattle.std.proofs.Common.{◌<◌, refl}
use Rattle.xdg_problem.specs.Places.{nodes}
use Rattle.xdg_pmulti.specs.Aims.{Blocks}
use Rattle.xdg_pmulti.proofs.Blocked.{filled_start}
use Rattle.xdg_pmulti.proofs.blocking.blocking.Goals as goal

pub loop-label-init : goal.loop-label-init
loop-label-init c = filled_start (λ label node. (node < nodes c.args.store.now.parts) × Blocks c.args.group.now c.args.store.now.now node label) c.empty-table.result _ c.empty-table.ensures.value refl

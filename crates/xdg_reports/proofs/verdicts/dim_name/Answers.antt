use Rattle.std.proofs.Common.{ap}
use Rattle.xdg_problem.specs.declared.parts.DimPlan.{DimPlan}
use Rattle.xdg_reports.proofs.Verdicted.{beyond}
use Rattle.xdg_reports.proofs.verdicts.dim_name.Goals as goal

pub returns-in-None : goal.returns-in-None
returns-in-None c = ap (λ (plan : DimPlan). plan.name) (beyond c.args.parts.now.dims c.from.result c.args.dim.0 c.in-None.ensures c.from.ensures)

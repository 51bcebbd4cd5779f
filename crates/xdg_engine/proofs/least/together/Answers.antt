use Rattle.std.proofs.Common.{arith}
use Rattle.xdg_engine.proofs.Totals.{cost_times}
use Rattle.xdg_engine.proofs.least.together.Goals as goal

pub returns-clause-small : goal.returns-clause-small
returns-clause-small c = cost_times c.args.cost c.args.edges (omega arith) c.requires

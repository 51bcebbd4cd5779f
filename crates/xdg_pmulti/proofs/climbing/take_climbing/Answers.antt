use Rattle.xdg_pmulti.proofs.Aiming.{climbing_done}
use Rattle.xdg_pmulti.proofs.climbing.take_climbing.Goals as goal

pub returns-clause-clears : goal.returns-clause-clears
returns-clause-clears c = climbing_done c.args.group.now c.dim_of-2.result.0 c.dim_of.result.0 c.above-below.result c.args.pass.now c.forbid_leaving.new.pass c.args.store.now c.forbid_leaving.new.store c.dim_of-2.ensures c.dim_of.ensures c.above-below.ensures.exact c.forbid_leaving.ensures.clears

use Rattle.xdg_pmulti.proofs.Aiming.{barriers_done, below_within}
use Rattle.xdg_pmulti.proofs.barriers.take_barriers.Goals as goal

pub forbid_blocked-requires-clause-over : goal.forbid_blocked-requires-clause-over
forbid_blocked-requires-clause-over c = below_within c.args.store.now.parts c.args.store.now.now c.dim_of-dim.result.0 c.above-over.result c.above-over.ensures.known.is_box c.above-over.ensures.exact

pub returns-clause-clears : goal.returns-clause-clears
returns-clause-clears c = barriers_done c.args.group.now c.dim_of.result.0 c.dim_of-dim.result.0 c.blocking-barred.result c.above-over.result c.above-near.result c.args.pass.now c.forbid_blocked.new.pass c.args.store.now c.forbid_blocked.new.store c.above-over.ensures.known c.dim_of.ensures c.dim_of-dim.ensures c.blocking-barred.ensures.exact c.above-over.ensures.exact c.above-near.ensures.exact c.forbid_blocked.ensures.clears

use Rattle.xdg_engine.proofs.Swept.{row_costs, all_gone, dear_go, dear_gone}
use Rattle.xdg_engine.proofs.cost_prop.sweep.Goals as goal

pub least_cost-least-requires : goal.least_cost-least-requires
least_cost-least-requires c = row_costs c.args.store.now.parts c.args.bound c.args.entries.now c.args.labels.now c.args.group.now.principle c.requires.holds

pub returns-then-least-bound : goal.returns-then-least-bound
returns-then-least-bound c = all_gone c.args.group.now c.args.bound c.args.entries.now c.args.labels.now c.least_cost-least.result c.args.store.now c.requires.known c.least_cost-least.ensures.exact c.requires.group c.requires.holds c.if-least-bound.true c.args.pass.now c.fail.new.self c.fail.ensures.goes c.fail.ensures.dead

pub forbid_dear-requires-clause-takes : goal.forbid_dear-requires-clause-takes
forbid_dear-requires-clause-takes c = dear_go c.args.group.now c.args.bound c.args.entries.now c.args.labels.now c.least_cost-least.result c.args.store.now c.requires.known c.least_cost-least.ensures.exact c.requires.holds

pub returns : goal.returns
returns c = dear_gone c.args.group.now c.args.bound c.args.entries.now c.args.labels.now c.least_cost-least.result c.args.store.now c.requires.known c.least_cost-least.ensures.exact c.requires.holds c.if-least-bound.false c.args.pass.now c.forbid_dear.new.pass c.forbid_dear.new.store c.forbid_dear.ensures

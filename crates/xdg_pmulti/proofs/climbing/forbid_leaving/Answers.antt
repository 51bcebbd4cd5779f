use Rattle.std.proofs.Common.{[], get_or, arith, subst}
use Rattle.xdg_propcore.specs.Passes.{Clears}
use Rattle.xdg_pmulti.specs.Aims.{Forbids, From}
use Rattle.xdg_pmulti.proofs.Aiming.{leaves_all}
use Rattle.xdg_propcore.proofs.Aimed.{first_more, first_none}
use Rattle.xdg_pmulti.proofs.climbing.forbid_leaving.Goals as goal

pub loop-mother-init : goal.loop-mother-init
loop-mother-init c = (first_none (λ parts x. Forbids parts c.args.dim.0 (From x (get_or c.args.table.now x []))) c.args.pass.now c.args.store.now, c.requires)

pub loop-mother-preserved : goal.loop-mother-preserved
loop-mother-preserved c =
    (first_more (λ parts x. Forbids parts c.args.dim.0 (From x (get_or c.args.table.now x []))) c.loop-mother.mother c.args.pass.now c.loop-mother.pass c.forbid_from.new.pass c.args.store.now c.loop-mother.store c.forbid_from.new.store c.loop-mother.invariant.0 (subst (λ s. Clears (Forbids c.loop-mother.store.parts c.args.dim.0 (From c.loop-mother.mother s)) c.loop-mother.pass c.loop-mother.store c.forbid_from.new.pass c.forbid_from.new.store) c.set_at.ensures c.forbid_from.ensures.clears), c.forbid_from.ensures.known)

pub returns-clause-clears : goal.returns-clause-clears
returns-clause-clears c = leaves_all c.args.store.now.parts c.args.dim.0 c.loop-mother.mother c.args.table.now c.args.pass.now c.loop-mother.pass c.args.store.now c.loop-mother.store (let t = c.loop-mother-test.false in let e = c.node_count-mother-end.ensures.size in omega (arith, t, e)) c.loop-mother.invariant.0

use Rattle.std.proofs.Common.{◌≡◌, ◌∙◌, ap, arith, length}
use Rattle.xdg_problem.specs.declared.parts.Parts.{Parts}
use Rattle.xdg_propcore.proofs.Sweeping.{group_stays}
use Rattle.xdg_propcore.proofs.Turns.{below_end, below_next}
use Rattle.xdg_engine.proofs.Freed.{AtDim, dims_free}
use Rattle.xdg_engine.proofs.cost_prop.forbid_dear.Goals as goal

pub forbid_on-requires-clause-group : goal.forbid_on-requires-clause-group
forbid_on-requires-clause-group c = group_stays c.args.group.now c.args.pass.now c.args.store.now c.loop-dim.pass c.loop-dim.store c.loop-dim.invariant.goes c.loop-dim.invariant.known c.requires.group

pub forbid_on-requires-clause-takes : goal.forbid_on-requires-clause-takes
forbid_on-requires-clause-takes c = dims_free c.args.group.now c.args.rows.now c.args.room c.loop-dim.dim c.args.pass.now c.args.store.now c.loop-dim.pass c.loop-dim.store c.loop-dim.invariant (c.requires.takes c.loop-dim.dim) (let t = c.loop-dim-test.true in let e = c.len-dim-end.ensures in let d : length c.parts.result.now.dims ≡ length c.args.store.now.parts.dims = ap (λ (p : Parts). length p.dims) (c.parts.ensures.same ∙ c.problem.ensures.parts) in omega (arith, t, e, d))

pub loop-dim-preserved : goal.loop-dim-preserved
loop-dim-preserved c =
    below_next c.args.group.now (AtDim c.args.rows.now c.args.room) c.loop-dim.dim c.args.pass.now c.args.store.now c.loop-dim.pass c.loop-dim.store c.forbid_on.new.pass c.forbid_on.new.store c.loop-dim.invariant c.forbid_on.ensures

pub returns : goal.returns
returns c = below_end c.args.group.now (AtDim c.args.rows.now c.args.room) c.loop-dim.dim (length c.args.store.now.parts.dims) c.args.pass.now c.args.store.now c.loop-dim.pass c.loop-dim.store (let t = c.loop-dim-test.false in let e = c.len-dim-end.ensures in let d : length c.parts.result.now.dims ≡ length c.args.store.now.parts.dims = ap (λ (p : Parts). length p.dims) (c.parts.ensures.same ∙ c.problem.ensures.parts) in omega (arith, t, e, d)) c.loop-dim.invariant

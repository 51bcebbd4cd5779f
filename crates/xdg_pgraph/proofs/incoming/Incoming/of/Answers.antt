use Rattle.std.proofs.Common.{arith}
use Rattle.std.specs.Prelude.{Contains}
use Rattle.xdg_rules.specs.Rules.{may_edges, must_edges}
use Rattle.xdg_graph.specs.declared.which.Which.TheVariants as whichs
use Rattle.xdg_pgraph.proofs.Sources.{count_turn}
use Rattle.xdg_pgraph.proofs.Told.{all_end, told_none}
use Rattle.xdg_pgraph.proofs.incoming.Incoming.of.Goals as goal

pub loop-daughter-init : goal.loop-daughter-init
loop-daughter-init c = (
  told_none (λ e. e.daughter.0) (Contains (may_edges c.args.store.now.parts c.args.store.now.now c.args.plane.now.dim.0)) c.nowhere-may.result c.nowhere-may.ensures,
  told_none (λ e. e.daughter.0) (Contains (must_edges c.args.store.now.parts c.args.store.now.now c.args.plane.now.dim.0)) c.nowhere-must.result c.nowhere-must.ensures,
)

pub loop-daughter-preserved : goal.loop-daughter-preserved
loop-daughter-preserved c = (
  count_turn (may_edges c.args.store.now.parts c.args.store.now.now c.args.plane.now.dim.0) c.loop-daughter.daughter c.loop-daughter.may c.with-may.result c.alone-this.result c.counts_at-here.result.may c.alone-this.ensures c.with-may.ensures.some c.with-may.ensures.more c.loop-daughter.invariant.0 c.counts_at-here.ensures.may,
  count_turn (must_edges c.args.store.now.parts c.args.store.now.now c.args.plane.now.dim.0) c.loop-daughter.daughter c.loop-daughter.must c.with-must.result c.alone-this.result c.counts_at-here.result.must c.alone-this.ensures c.with-must.ensures.some c.with-must.ensures.more c.loop-daughter.invariant.1 c.counts_at-here.ensures.must,
)

pub returns : goal.returns
returns c = (let t = c.loop-daughter-test.false in record {
  may = all_end whichs.May c.args.store.now.parts c.args.store.now.now c.args.plane.now c.requires.plane c.loop-daughter.daughter c.loop-daughter.may (omega (arith, t)) c.loop-daughter.invariant.0;
  must = all_end whichs.Must c.args.store.now.parts c.args.store.now.now c.args.plane.now c.requires.plane c.loop-daughter.daughter c.loop-daughter.must (omega (arith, t)) c.loop-daughter.invariant.1;
})

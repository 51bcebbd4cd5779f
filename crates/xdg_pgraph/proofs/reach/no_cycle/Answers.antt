use Rattle.std.proofs.Common.{arith, refl}
use Rattle.xdg_nodeset.proofs.TableSets.{no_in}
use Rattle.xdg_propcore.proofs.Aimed.{first_more, first_none}
use Rattle.xdg_pgraph.specs.declared.found.Found.TheVariants as founds
use Rattle.xdg_pgraph.specs.Seeking.{Aims, BacksInto}
use Rattle.xdg_pgraph.proofs.Reached.{backs_all, cycles_run}
use Rattle.xdg_pgraph.proofs.reach.no_cycle.Goals as goal

pub loop-daughter-init : goal.loop-daughter-init
loop-daughter-init c = (first_none (λ parts x. Aims parts c.args.plane.now.dim.0 founds.More (BacksInto c.note_above.new.table x)) c.args.pass.now c.args.store.now, c.requires.known)

pub loop-daughter-preserved : goal.loop-daughter-preserved
loop-daughter-preserved c =
    (first_more (λ parts x. Aims parts c.args.plane.now.dim.0 founds.More (BacksInto c.note_above.new.table x)) c.loop-daughter.daughter c.args.pass.now c.loop-daughter.pass c.no_cycle_into.new.pass c.args.store.now c.loop-daughter.store c.no_cycle_into.new.store c.loop-daughter.invariant.0 c.no_cycle_into.ensures.clears, c.no_cycle_into.ensures.known)

pub returns-clause-runs : goal.returns-clause-runs
returns-clause-runs c = cycles_run c.args.plane.now c.args.pass.now c.loop-daughter.pass c.args.store.now c.loop-daughter.store c.note_above.new.table c.requires.plane c.note_above.ensures.exact
    (backs_all c.args.plane.now c.note_above.new.table c.loop-daughter.daughter c.args.pass.now c.loop-daughter.pass c.args.store.now c.loop-daughter.store c.requires.plane (let t = c.loop-daughter-test.false in omega (arith, t)) c.loop-daughter.invariant.0)

pub note_above-requires : goal.note_above-requires
note_above-requires c = record { blank = no_in _ 128 c.empty-far.result refl c.empty-far.ensures.value }

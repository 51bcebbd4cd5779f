use Rattle.xdg_propcore.specs.Standing.{box_at}
use Rattle.xdg_formula_value.proofs.Keeping.{last_either, last_none}
use Rattle.xdg_formula_value.proofs.kept.lasting.Goals as goal

pub loop-label-init : goal.loop-label-init
loop-label-init c = last_none c.args.which c.args.store.now.parts (box_at c.args.store.now c.args.since) c.args.store.now.now c.args.dim.0 c.args.mother.0 c.empty-row.result c.empty-row.ensures.value

pub loop-label-preserved : goal.loop-label-preserved
loop-label-preserved c = last_either c.args.which c.args.store.now.parts (box_at c.args.store.now c.args.since) c.args.store.now.now c.args.dim.0 c.args.mother.0 c.loop-label.row c.lasting_by.result c.union-row.result c.union-row.ensures.members c.loop-label.invariant c.lasting_by.ensures

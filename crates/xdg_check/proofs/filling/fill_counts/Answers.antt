use Rattle.xdg_check.proofs.Filled.{turned, all_uses, all_combos}
use Rattle.xdg_check.proofs.filling.fill_counts.Goals as goal

pub loop-place-preserved : goal.loop-place-preserved
loop-place-preserved c =
    turned c.args.classes.now c.loop-place.classes c.args.names.now c.args.order.now c.loop-place.place-index c.index-known-place.result c.index-classes-place.result c.uses_in-uses.result c.combos_in-combos.result
    c.requires.names c.requires.ordered c.loop-place-test.true c.loop-place.invariant c.uses_in-uses.ensures c.combos_in-combos.ensures

pub returns-clause-uses : goal.returns-clause-uses
returns-clause-uses c = all_uses c.args.classes.now c.loop-place.classes c.args.order.now c.loop-place.place-index c.requires.apart c.requires.ordered c.loop-place-test.false c.loop-place.invariant

pub returns-clause-combos : goal.returns-clause-combos
returns-clause-combos c = all_combos c.args.classes.now c.loop-place.classes c.args.order.now c.loop-place.place-index c.requires.apart c.requires.ordered c.loop-place-test.false c.loop-place.invariant

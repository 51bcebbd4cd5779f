use Rattle.xdg_problem.specs.Truths.{stands}
use Rattle.xdg_formula_value.proofs.Bounding.{several_bounds_turn}
use Rattle.xdg_formula_value.proofs.possible.+possible.Goals as goal

pub possible_joined-loop-formula-preserved : goal.possible_joined-loop-formula-preserved
possible_joined-loop-formula-preserved t c = several_bounds_turn c.args.store.now.parts c.args.store.now.now c.args.truth (stands c.args.binding.now) c.args.name c.args.other c.args.care c.args.each c.args.formulas.now c.loop-formula.formula-index c.formula-item.result c.loop-formula.row c.still_open-still.result c.loop-formula-test.true c.formula-item.is c.loop-formula.invariant c.still_open-still.ensures c.possible_row-here.result c.joined-row.result c.possible_row-here.ensures c.joined-row.ensures

use Rattle.std.proofs.Common.{[]}
use Rattle.xdg_problem.specs.Truths.{stands}
use Rattle.xdg_formula_value.proofs.Bounding.{second_bounds}
use Rattle.xdg_formula_value.proofs.possible.possible_second.Goals as goal

pub returns-clause-bounds : goal.returns-clause-bounds
returns-clause-bounds c = second_bounds c.args.store.now.parts c.args.store.now.now c.args.truth (stands c.args.binding.now) c.args.name c.args.other [] c.args.formula.now c.args.paths.now.all c.requires.paths.all c.possible_row.result c.meet.result c.if-other-name.false c.possible_row.ensures c.meet.ensures.members

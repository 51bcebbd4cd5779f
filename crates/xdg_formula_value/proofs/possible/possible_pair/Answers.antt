use Rattle.std.proofs.Common.{[]}
use Rattle.xdg_problem.specs.Truths.{stands}
use Rattle.xdg_formula_value.proofs.Bounding.{pair_bounds}
use Rattle.xdg_formula_value.proofs.possible.possible_pair.Goals as goal

pub returns : goal.returns
returns c = pair_bounds c.args.store.now.parts c.args.store.now.now c.args.truth (stands c.args.binding.now) c.args.name c.args.other [] c.args.pair c.args.first c.args.second c.pair_row.result c.if-first-other.false c.if-second-other.false c.pair_row.ensures

use Rattle.xdg_problem.specs.Claims.{claim}
use Rattle.xdg_problem.specs.Truths.{stands}
use Rattle.xdg_formula_value.proofs.Finding.{found_outside}
use Rattle.xdg_formula_value.proofs.lost.may_be_found.Goals as goal

pub returns : goal.returns
returns c = found_outside c.args.store.now.parts c.args.store.now.now (claim c.args.formula.now) c.args.truth (stands c.args.binding.now) 255 c.args.name c.node_of.result.0 c.args.paths.now.all c.possible_row-row.result c.contains.result c.requires.nodes c.requires.paths.all c.possible_row-row.ensures c.node_of.ensures c.contains.ensures.value

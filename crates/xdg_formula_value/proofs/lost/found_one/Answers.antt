use Rattle.std.proofs.Common.{false}
use Rattle.xdg_problem.specs.Claims.{claim}
use Rattle.xdg_problem.specs.Places.{nodes}
use Rattle.xdg_problem.specs.Truths.{bound, stands}
use Rattle.xdg_rules.specs.Worths.{Makes}
use Rattle.xdg_formula_value.proofs.Finding.{found_nowhere}
use Rattle.xdg_formula_value.proofs.Rowed.{over_told}
use Rattle.xdg_formula_value.proofs.lost.found_one.Goals as goal

pub returns-then-not-may_be_found : goal.returns-then-not-may_be_found
returns-then-not-may_be_found c = found_nowhere c.args.store.now.parts c.args.store.now.now (claim c.args.formula.now) c.args.truth (stands c.args.binding.now) c.args.name c.may_be_found.result c.if-not-may_be_found.true c.may_be_found.ensures

pub returns : goal.returns
returns c = over_told false c.has_over.result c.node_count.result (nodes c.args.store.now.parts) c.args.paths.now.all (λ v. Makes c.args.store.now.parts c.args.store.now.now (claim c.args.formula.now) c.args.truth (bound (stands c.args.binding.now) c.args.name v)) c.row_of-row.result c.node_count.ensures.size c.requires.paths.all c.row_of-row.ensures c.has_over.ensures

use Rattle.std.proofs.Common.{◌↔◌, false, subst}
use Rattle.std.specs.Prelude.{IsTrue}
use Rattle.xdg_problem.specs.Claims.{claim}
use Rattle.xdg_rules.specs.Worths.{Makes}
use Rattle.xdg_problem.specs.Truths.{stands}
use Rattle.xdg_problem.proofs.Bindings.{nodes_unbound}
use Rattle.xdg_formula_value.proofs.value.is_false_by.Goals as goal

pub makes-requires-clause-nodes : goal.makes-requires-clause-nodes
makes-requires-clause-nodes c = nodes_unbound c.args.store.now.parts (stands c.none_bound.result) c.none_bound.ensures c.requires.known.problem.some

pub returns : goal.returns
returns c = subst (λ b. IsTrue c.makes.result ↔ Makes c.args.store.now.parts c.args.store.now.now (claim c.args.formula.now) false b) c.none_bound.ensures c.makes.ensures

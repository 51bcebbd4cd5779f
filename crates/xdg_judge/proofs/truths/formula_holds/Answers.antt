use Rattle.xdg_problem.specs.Truths.{stands}
use Rattle.xdg_problem.proofs.Bindings.{nodes_unbound}
use Rattle.xdg_judge.proofs.Formed.{holds_unbound}
use Rattle.xdg_judge.proofs.truths.formula_holds.Goals as goal

pub is_true-requires-clause-nodes : goal.is_true-requires-clause-nodes
is_true-requires-clause-nodes c = nodes_unbound c.args.parts.now (stands c.none_bound-binding.result) c.none_bound-binding.ensures c.requires.problem.some

pub returns : goal.returns
returns c = holds_unbound c.args.parts.now c.args.analysis.now c.args.formula.now (stands c.none_bound-binding.result) c.is_true.result c.none_bound-binding.ensures c.is_true.ensures

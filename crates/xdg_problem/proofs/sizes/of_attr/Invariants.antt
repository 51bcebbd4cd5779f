use Rattle.std.proofs.Common.{◌≡◌, get_or, drop}
use Rattle.xdg_problem.specs.Vectors.{attr_sizes}
use Rattle.xdg_problem.proofs.sizes.of_attr.Given as goal

abbrev pub invariant-loop-plan : goal.invariant-loop-plan
invariant-loop-plan l = get_or (attr_sizes l.nodes (drop l.plan-index l.dims)) l.rest 2 ≡ get_or (attr_sizes l.nodes l.dims) l.at 2

use Rattle.std.proofs.Common.{drop}
use Rattle.xdg_types.proofs.Again.{SeenSoFar}
use Rattle.xdg_classes.specs.Definitions.{param_names}
use Rattle.xdg_classes.proofs.repeats.params_again.Given as goal

abbrev pub invariant-loop-param : goal.invariant-loop-param
invariant-loop-param l = SeenSoFar l.found l.seen (param_names (drop l.param-index l.params)) l.initial.seen (param_names l.params)

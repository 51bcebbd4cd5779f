use Rattle.std.proofs.Common.{refl}
use Rattle.xdg_problem.proofs.Bindings.{unbound_table}
use Rattle.xdg_problem.proofs.binding.none_bound.Goals as goal

pub returns : goal.returns
returns c = unbound_table _ 256 refl

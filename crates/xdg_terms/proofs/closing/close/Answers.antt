use Rattle.xdg_terms.proofs.Binding.{bound_law}
use Rattle.xdg_terms.proofs.ClosedLaw.{closed_law}
use Rattle.xdg_terms.proofs.closing.close.Goals as goal

pub returns-clause-right : goal.returns-clause-right
returns-clause-right c free s open_right are_bound = (bound_law free c.args.bindings.now s c.args.term.now open_right are_bound, closed_law free c.args.bindings.now s c.args.term.now open_right are_bound)

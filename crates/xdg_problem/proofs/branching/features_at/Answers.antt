use Rattle.std.proofs.Common.{◌∙◌, [], ap, sym}
use Rattle.std.specs.Option.{option_copied}
use Rattle.xdg_problem.proofs.branching.features_at.Goals as goal
use Rattle.xdg_facts.proofs.Lists.{none_at}

pub returns-in-None : goal.returns-in-None
returns-in-None c = c.new.ensures ∙ sym (none_at c.args.features.now c.args.place [] (sym c.get.ensures ∙ ap option_copied c.in-None.is))

use Rattle.xdg_porder.proofs.sets.is_empty.Goals as goal
use Rattle.xdg_facts.proofs.Gathering.{some_exact}

pub returns-in-Some : goal.returns-in-Some
returns-in-Some c = some_exact c.args.set _ c.in-Some.field-0.0 c.in-Some.ensures.value.0

use Rattle.std.specs.Prelude.{◌≤◌, ◌<◌}
use Rattle.xdg_porder.proofs.Bounding.{right_exact}
use Rattle.xdg_porder.proofs.sets.right_of.Goals as goal
use Rattle.xdg_facts.proofs.Sets.{none_exact}

pub returns-in-Some : goal.returns-in-Some
returns-in-Some c = right_exact c.args.ends _ c.from.result c.in-Some.end.0 c.first.ensures.nodes c.in-Some.ensures.value.0 c.from.ensures

pub returns-in-None : goal.returns-in-None
returns-in-None c = none_exact (λ v w. (w ≤ v) × (v < 128)) c.args.ends c.empty.result c.in-None.ensures.value c.empty.ensures.value

use Rattle.std.proofs.Common.{sym, ◌∙◌}
use Rattle.std.specs.Prelude.{◌≤◌}
use Rattle.xdg_porder.proofs.Bounding.{last_small, left_exact}
use Rattle.xdg_porder.proofs.sets.left_of.Goals as goal
use Rattle.xdg_facts.proofs.Sets.{none_exact}

pub up_to-requires : goal.up_to-requires
up_to-requires c = last_small c.args.ends c.next_back.new.self c.in-Some.end.0 c.iter.ensures.nodes (sym c.iter.ensures.value ∙ c.in-Some.ensures.steps)

pub returns-in-Some : goal.returns-in-Some
returns-in-Some c = left_exact c.args.ends c.next_back.new.self c.up_to.result c.in-Some.end.0 c.iter.ensures.nodes (sym c.iter.ensures.value ∙ c.in-Some.ensures.steps) c.up_to.ensures

pub returns-in-None : goal.returns-in-None
returns-in-None c = none_exact (λ v w. v ≤ w) c.args.ends c.empty.result (sym c.iter.ensures.value ∙ c.in-None.ensures.steps.0) c.empty.ensures.value

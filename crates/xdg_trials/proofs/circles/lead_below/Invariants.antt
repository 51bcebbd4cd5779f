use Rattle.std.proofs.Common.{◌<◌, ◌⊎◌, drop}
use Rattle.xdg_names.specs.declared.graph.Use.{Use}
use Rattle.xdg_trials.proofs.circles.lead_below.Given as goal
use Rattle.xdg_facts.specs.Membership.{In}

abbrev pub invariant-loop-next : goal.invariant-loop-next
invariant-loop-next l = (u : Use) → In l.uses u → In (drop l.next-index l.uses) u ⊎ (u.to < l.count)

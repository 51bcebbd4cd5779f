use Rattle.std.proofs.Common.{ℕ, ◌<◌, length}
use Rattle.xdg_names.specs.declared.graph.Use.{Use}
use Rattle.xdg_names.specs.Leads.{uses_of}
use Rattle.xdg_trials.proofs.circles.is_graph.Given as goal
use Rattle.xdg_facts.specs.Membership.{In}

abbrev pub invariant-loop-definition : goal.invariant-loop-definition
invariant-loop-definition l = (a : ℕ) → a < l.definition → (u : Use) → In (uses_of l.graph a) u → u.to < length l.graph

-- A front of a boxed prefix is boxed.
use Rattle.xdg_facts.specs.Closed.{Closed}
use Rattle.xdg_problem.specs.declared.parts.Parts.{Parts}
use Rattle.xdg_rules.specs.Boxed.{Boxed}
use Rattle.xdg_rules.proofs.ClosedLive.{boxed_closed}

pub front_closed : (parts : Parts) → Closed (Boxed parts)
front_closed parts = boxed_closed parts

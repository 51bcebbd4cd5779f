use Rattle.xdg_rules.specs.Rules.{may_edges}
use Rattle.xdg_plink.proofs.Leading.{LedBy}
use Rattle.xdg_plink.proofs.entries.is_led.Given as goal
use Rattle.xdg_facts.proofs.Meetings.{NoneMeet}

abbrev pub invariant-loop-label : goal.invariant-loop-label
invariant-loop-label l = NoneMeet (LedBy l.way (may_edges l.store.parts l.store.now l.dim.0) l.table l.u.0 l.v.0) l.labels l.label-index

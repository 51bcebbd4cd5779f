use Rattle.std.proofs.Common.{◌<◌, [], get_or}
use Rattle.xdg_store.specs.States.{Known}
use Rattle.xdg_propcore.specs.Passes.{Clears}
use Rattle.xdg_pmulti.specs.Aims.{Forbids, StoppedBy}
use Rattle.xdg_propcore.proofs.Aimed.{ByOne}
use Rattle.xdg_pmulti.proofs.barriers.forbid_blocked.Given as goal

abbrev pub invariant-loop-label : goal.invariant-loop-label
invariant-loop-label l = Clears (ByOne (λ x. x < l.label) (λ x. Forbids l.initial.store.parts l.dim.0 (StoppedBy (get_or l.blocking x []) x l.over l.near))) l.initial.pass l.initial.store l.pass l.store × Known l.store

use Rattle.std.proofs.Common.{◌<◌, [], get_or}
use Rattle.xdg_store.specs.States.{Known}
use Rattle.xdg_propcore.specs.Passes.{Clears}
use Rattle.xdg_pmulti.specs.Aims.{Forbids, From}
use Rattle.xdg_propcore.proofs.Aimed.{ByOne}
use Rattle.xdg_pmulti.proofs.climbing.forbid_leaving.Given as goal

abbrev pub invariant-loop-mother : goal.invariant-loop-mother
invariant-loop-mother l = Clears (ByOne (λ x. x < l.mother) (λ x. Forbids l.initial.store.parts l.dim.0 (From x (get_or l.table x [])))) l.initial.pass l.initial.store l.pass l.store × Known l.store

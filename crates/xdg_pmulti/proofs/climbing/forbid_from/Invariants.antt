use Rattle.std.proofs.Common.{◌<◌}
use Rattle.xdg_store.specs.States.{Known}
use Rattle.xdg_propcore.specs.Passes.{Clears}
use Rattle.xdg_pmulti.specs.Aims.{Beyond, Forbids}
use Rattle.xdg_propcore.proofs.Aimed.{ByOne}
use Rattle.xdg_pmulti.proofs.climbing.forbid_from.Given as goal

abbrev pub invariant-loop-label : goal.invariant-loop-label
invariant-loop-label l = Clears (ByOne (λ x. x < l.label) (λ x. Forbids l.initial.store.parts l.dim.0 (Beyond l.mother.0 x l.within))) l.initial.pass l.initial.store l.pass l.store × Known l.store

use Rattle.std.specs.Prelude.{◌<◌}
use Rattle.xdg_store.specs.States.{Known}
use Rattle.xdg_propcore.specs.Passes.{Clears}
use Rattle.xdg_propcore.proofs.Aimed.{ByOne}
use Rattle.xdg_pgraph.specs.declared.found.Found.TheVariants as founds
use Rattle.xdg_pgraph.specs.Seeking.{Aims, BacksInto}
use Rattle.xdg_pgraph.proofs.reach.no_cycle.Given as goal

abbrev pub invariant-loop-daughter : goal.invariant-loop-daughter
invariant-loop-daughter l = Clears (ByOne (λ x. x < l.daughter) (λ x. Aims l.fn.store.parts l.plane.dim.0 founds.More (BacksInto l.far x))) l.fn.pass l.fn.store l.pass l.store × Known l.store

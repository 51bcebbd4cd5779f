use Rattle.std.specs.Prelude.{◌<◌}
use Rattle.xdg_store.specs.States.{Known}
use Rattle.xdg_propcore.specs.Passes.{Clears}
use Rattle.xdg_propcore.proofs.Aimed.{ByOne}
use Rattle.xdg_pgraph.specs.Seeking.{Aims, ToWith}
use Rattle.xdg_pgraph.proofs.taking.forbid_entering.Given as goal

abbrev pub invariant-loop-label : goal.invariant-loop-label
invariant-loop-label l = Clears (ByOne (λ x. x < l.label) (λ x. Aims l.fn.store.parts l.plane.dim.0 l.others (ToWith l.daughter x))) l.fn.pass l.fn.store l.pass l.store × Known l.store

use Rattle.xdg_problem.specs.Places.{edge}
use Rattle.xdg_store.specs.States.{Known}
use Rattle.xdg_propcore.specs.Passes.{Clears}
use Rattle.xdg_propcore.proofs.Aimed.{ByOne}
use Rattle.std.specs.Prelude.{◌<◌}
use Rattle.xdg_pgraph.proofs.Taken.{OneOf}
use Rattle.xdg_pgraph.proofs.taking.forbid_joined.Given as goal

abbrev pub invariant-loop-label : goal.invariant-loop-label
invariant-loop-label l =
    Clears (ByOne (λ x. x < l.label) (OneOf l.plane.dim.0 l.others (λ x. edge l.plane.dim.0 l.mother x l.daughter) l.fn.store.parts)) l.fn.pass l.fn.store l.pass l.store
    × Known l.store

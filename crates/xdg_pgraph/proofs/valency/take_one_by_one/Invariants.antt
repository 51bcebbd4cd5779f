use Rattle.std.specs.Prelude.{◌<◌}
use Rattle.xdg_store.specs.States.{Known}
use Rattle.xdg_propcore.specs.Passes.{Clears}
use Rattle.xdg_propcore.proofs.Aimed.{ByOne}
use Rattle.xdg_pgraph.proofs.Clearing.{BarredAt}
use Rattle.xdg_pgraph.proofs.valency.take_one_by_one.Given as goal

abbrev pub invariant-loop-place : goal.invariant-loop-place
invariant-loop-place l = Clears (ByOne (λ k. k < l.place) (BarredAt l.fn.store.parts l.group l.bundle l.least l.most)) l.fn.pass l.fn.store l.pass l.store × Known l.store

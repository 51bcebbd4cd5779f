use Rattle.xdg_store.specs.Decisions.{number_of}
use Rattle.xdg_stream.proofs.Restricting.{Restricting}
use Rattle.xdg_stream.proofs.narrowing.restrict.Given as goal

abbrev pub invariant-loop-block : goal.invariant-loop-block
invariant-loop-block l = Restricting l.fn.store l.store l.change (number_of l.fn.store.parts l.decision) l.value l.block

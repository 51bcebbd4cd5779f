use Rattle.xdg_store.specs.Decisions.{number_of}
use Rattle.xdg_stream.proofs.Finding.{FoundBelow}
use Rattle.xdg_stream.proofs.forced.last_value.Given as goal

abbrev pub invariant-loop-value : goal.invariant-loop-value
invariant-loop-value l = FoundBelow l.store.now (number_of l.store.parts l.decision) l.value l.found

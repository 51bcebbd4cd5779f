use Rattle.std.proofs.Common.{◌≡◌, ◌-◌}
use Rattle.xdg_split.proofs.FoundSoFar.{Found}
use Rattle.xdg_split.proofs.printing.print_found.Given as goal

abbrev pub invariant-draw : goal.invariant-draw
invariant-draw g l = record {
  found : Found l.fn.form l.fn.first l.problem l.fn.stream.start l.fn.stream.budget l.stream l.count (g.K.Sink.held l.initial.sink) (g.K.Sink.held l.sink);
  quiet : g.K.Sink.faults l.sink ≡ g.K.Sink.faults l.initial.sink;
}

abbrev pub decreases-draw : goal.decreases-draw
decreases-draw g l = l.stream.budget - l.stream.charged

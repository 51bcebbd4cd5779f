use Rattle.std.proofs.Common.{◌≡◌, ◌-◌, map}
use Rattle.std.specs.Prelude.{codes}
use Rattle.xdg_arrange.proofs.Laying.{Laid}
use Rattle.xdg_text.specs.Lines.{line}
use Rattle.xdg_text.specs.Words.{word_text}
use Rattle.xdg_arrange.proofs.searching.print_found.Given as goal

abbrev pub invariant-draw : goal.invariant-draw
invariant-draw g l = record {
  laid : Laid (line (codes "arrangement") (map word_text l.lead)) l.problem l.fn.stream.budget l.stream l.count (g.K.Sink.held l.initial.out) (g.K.Sink.held l.out);
  quiet : g.K.Sink.faults l.out ≡ g.K.Sink.faults l.initial.out;
}

abbrev pub decreases-draw : goal.decreases-draw
decreases-draw g l = l.stream.budget - l.stream.charged

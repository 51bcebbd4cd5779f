use Rattle.std.proofs.Common.{drop}
use Rattle.xdg_io.proofs.Parts.{Resumes}
use Rattle.xdg_reports.specs.VerdictsText.{items_text}
use Rattle.xdg_reports.proofs.conditions.write_items.Given as goal

abbrev pub invariant-loop-place : goal.invariant-loop-place
invariant-loop-place g l =
    Resumes (g.K.Sink.held l.initial.sink) (g.K.Sink.held l.sink) (g.K.Sink.faults l.initial.sink) (g.K.Sink.faults l.sink) (items_text l.labels l.condition 0 l.numbers) (items_text l.labels l.condition l.place (drop l.place l.numbers))

use Rattle.std.proofs.Common.{drop}
use Rattle.xdg_io.proofs.Parts.{Resumes}
use Rattle.xdg_reports.specs.VerdictsText.{verdict_lines}
use Rattle.xdg_reports.proofs.verdicts.write_verdict_lines.Given as goal

abbrev pub invariant-loop-place : goal.invariant-loop-place
invariant-loop-place g l =
    Resumes (g.K.Sink.held l.initial.sink) (g.K.Sink.held l.sink) (g.K.Sink.faults l.initial.sink) (g.K.Sink.faults l.sink) (verdict_lines l.parts l.own l.rules 0 l.groups l.verdicts) (verdict_lines l.parts l.own l.rules l.place (drop l.place l.groups) (drop l.place l.verdicts))

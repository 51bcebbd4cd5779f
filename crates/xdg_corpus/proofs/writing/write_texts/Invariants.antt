use Rattle.std.proofs.Common.{◌+◌, drop}
use Rattle.xdg_corpus.specs.Groups.{group_text}
use Rattle.xdg_io.proofs.Parts.{Resumes}
use Rattle.xdg_corpus.proofs.writing.write_texts.Given as goal

abbrev pub invariant-loop-place : goal.invariant-loop-place
invariant-loop-place g l =
    Resumes (g.K.Sink.held l.initial.out) (g.K.Sink.held l.out) (g.K.Sink.faults l.initial.out) (g.K.Sink.faults l.out) (group_text l.answers l.first l.sentences) (group_text l.answers (l.first + l.place) (drop l.place l.sentences))

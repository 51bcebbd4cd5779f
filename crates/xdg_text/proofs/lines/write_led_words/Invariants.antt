use Rattle.std.proofs.Common.{drop}
use Rattle.std.specs.List.{flat_map}
use Rattle.xdg_io.proofs.Parts.{Resumes}
use Rattle.xdg_text.specs.Words.{led_word}
use Rattle.xdg_text.proofs.lines.write_led_words.Given as goal

abbrev pub invariant-loop-word : goal.invariant-loop-word
invariant-loop-word g l =
    Resumes (g.K.Sink.held l.initial.sink) (g.K.Sink.held l.sink) (g.K.Sink.faults l.initial.sink) (g.K.Sink.faults l.sink) (flat_map led_word l.words) (flat_map led_word (drop l.word-index l.words))

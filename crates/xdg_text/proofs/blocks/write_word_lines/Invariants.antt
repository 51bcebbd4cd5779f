use Rattle.std.proofs.Common.{drop}
use Rattle.xdg_io.proofs.Parts.{Resumes}
use Rattle.xdg_text.specs.Blocks.{word_lines}
use Rattle.xdg_text.proofs.blocks.write_word_lines.Given as goal

abbrev pub invariant-loop-node : goal.invariant-loop-node
invariant-loop-node g l =
    Resumes (g.K.Sink.held l.initial.sink) (g.K.Sink.held l.sink) (g.K.Sink.faults l.initial.sink) (g.K.Sink.faults l.sink) (word_lines 0 l.words l.entries) (word_lines l.node (drop l.node l.words) (drop l.node l.entries))

use Rattle.std.proofs.Common.{drop}
use Rattle.std.specs.List.{flat_map}
use Rattle.xdg_io.proofs.Parts.{Resumes}
use Rattle.xdg_text.specs.Values.{led_constant}
use Rattle.xdg_text.proofs.values.write_led_constants.Given as goal

abbrev pub invariant-loop-text : goal.invariant-loop-text
invariant-loop-text g l =
    Resumes (g.K.Sink.held l.initial.sink) (g.K.Sink.held l.sink) (g.K.Sink.faults l.initial.sink) (g.K.Sink.faults l.sink) (flat_map led_constant l.texts) (flat_map led_constant (drop l.text-index l.texts))

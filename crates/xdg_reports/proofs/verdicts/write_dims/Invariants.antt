use Rattle.std.proofs.Common.{drop}
use Rattle.std.specs.List.{flat_map}
use Rattle.xdg_io.proofs.Parts.{Resumes}
use Rattle.xdg_reports.specs.VerdictsText.{dim_text}
use Rattle.xdg_reports.proofs.verdicts.write_dims.Given as goal

abbrev pub invariant-loop-dim : goal.invariant-loop-dim
invariant-loop-dim g l =
    Resumes (g.K.Sink.held l.initial.sink) (g.K.Sink.held l.sink) (g.K.Sink.faults l.initial.sink) (g.K.Sink.faults l.sink) (flat_map (dim_text l.parts) l.dims) (flat_map (dim_text l.parts) (drop l.dim-index l.dims))

use Rattle.std.proofs.Common.{◌≡◌, ◌+◌, length, take}
use Rattle.xdg_problem.specs.Vectors.{attr_sizes}
use Rattle.xdg_stream.proofs.decision.attr_at.Given as goal

abbrev pub invariant-loop-dim : goal.invariant-loop-dim
invariant-loop-dim l = l.rest + length (attr_sizes l.nodes (take l.dim l.parts.dims)) ≡ l.at

use Rattle.xdg_lexicon.proofs.Dims.{SoFar, ReadsAt}
use Rattle.xdg_lexicon.proofs.entries.read_partial.Given as goal

abbrev pub invariant-loop-dim : goal.invariant-loop-dim
invariant-loop-dim l = SoFar (ReadsAt l.fn.dims l.fn.bindings l.fn.name l.fn.pairs) l.dim-index l.made

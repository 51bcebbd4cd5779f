use Rattle.std.proofs.Common.{◌≡◌, length}
use Rattle.xdg_formula_value.specs.Filling.{TellsPaths}
use Rattle.xdg_formula_value.proofs.paths.tables.Given as goal

abbrev pub invariant-loop-dim : goal.invariant-loop-dim
invariant-loop-dim l = TellsPaths l.way l.which l.store l.dim l.dims l.tables × (length l.tables ≡ 8)

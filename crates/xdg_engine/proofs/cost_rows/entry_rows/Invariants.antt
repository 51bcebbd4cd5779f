use Rattle.std.proofs.Common.{◌≡◌, map, take}
use Rattle.xdg_engine.specs.CostRows.{entry_row}
use Rattle.xdg_engine.proofs.cost_rows.entry_rows.Given as goal

abbrev pub invariant-loop-candidates : goal.invariant-loop-candidates
invariant-loop-candidates l = l.rows ≡ map (entry_row l.costs) (take l.candidates-index l.candidates-items)

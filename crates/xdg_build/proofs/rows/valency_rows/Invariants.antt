use Rattle.std.proofs.Common.{◌≡◌, map, take}
use Rattle.xdg_build.proofs.rows.valency_rows.Given as goal

abbrev pub invariant-loop-said : goal.invariant-loop-said
invariant-loop-said l = l.made ≡ map (λ said. said.1) (take l.said-index l.said-items)

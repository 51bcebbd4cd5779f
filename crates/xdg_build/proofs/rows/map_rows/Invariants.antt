use Rattle.std.proofs.Common.{◌≡◌, map, take}
use Rattle.xdg_domain.specs.declared.values.Value.{out-Value}
use Rattle.xdg_build.specs.Features.{members_in}
use Rattle.xdg_build.proofs.rows.map_rows.Given as goal

abbrev pub invariant-loop-said : goal.invariant-loop-said
invariant-loop-said l = l.made ≡ map (λ said. members_in (out-Value said.1)) (take l.said-index l.said-items)

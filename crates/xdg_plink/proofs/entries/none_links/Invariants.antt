use Rattle.std.proofs.Common.{ℕ, ◌<◌}
use Rattle.xdg_problem.specs.Arguments.{second_dim}
use Rattle.xdg_problem.specs.Boxes.{Has, entry_decision}
use Rattle.xdg_problem.specs.Features.{map_row}
use Rattle.xdg_rules.specs.Rules.{may_edges}
use Rattle.xdg_plink.specs.Ways.{way_of, IsLed}
use Rattle.xdg_plink.proofs.entries.none_links.Given as goal

abbrev pub invariant-loop-place : goal.invariant-loop-place
invariant-loop-place l = (c : ℕ) → c < l.place → Has l.store.now (entry_decision l.u.0) c → IsLed (way_of l.group.principle) (may_edges l.store.parts l.store.now (second_dim l.group)) l.table (map_row l.group l.u.0 c l.label.0) l.u.0 l.v.0 → ⊥

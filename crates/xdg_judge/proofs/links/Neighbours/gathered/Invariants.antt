use Rattle.std.proofs.Common.{ℕ, ◌↔◌, take}
use Rattle.std.specs.List.{Any}
use Rattle.xdg_problem.specs.Paths.{edges_on}
use Rattle.xdg_judge.specs.Links.{Leads, LeadsBy}
use Rattle.xdg_nodeset.specs.Tables.{InTable, InBy}
use Rattle.xdg_judge.proofs.links.Neighbours.gathered.Given as goal

abbrev pub invariant-loop-edge : goal.invariant-loop-edge
invariant-loop-edge l = record {
  by_label : (from label to : ℕ) → InBy l.sets.by_label from label to ↔ Any (LeadsBy l.direction from label to) (edges_on l.dim (take l.edge-index l.edges));
  next : (from to : ℕ) → InTable l.sets.next from to ↔ Any (Leads l.direction from to) (edges_on l.dim (take l.edge-index l.edges));
}

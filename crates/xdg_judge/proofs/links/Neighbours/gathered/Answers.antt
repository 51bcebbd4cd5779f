use Rattle.std.proofs.Common.{arith, get_or, ◌≤◌, length}
use Rattle.std.proofs.lemmas.List.{get_or_default}
use Rattle.xdg_problem.specs.Places.{edge}
use Rattle.xdg_judge.specs.Links.{Leads, LeadsBy}
use Rattle.xdg_nodeset.specs.Tables.{InTable, InBy}
use Rattle.xdg_judge.proofs.Gathering.{gather_none, gather_here, gather_over, gather_all}
use Rattle.xdg_judge.proofs.links.Neighbours.gathered.Goals as goal
use Rattle.xdg_judge.proofs.links.Neighbours.gathered.Goals.{then-edge-dim, else-edge-dim}

pub loop-edge-init : goal.loop-edge-init
loop-edge-init c = record {
  by_label = λ from label to. gather_none c.args.dim (LeadsBy c.args.direction from label to) (InBy c.none-sets.result.by_label from label to) c.args.edges.now (c.none-sets.ensures.by_label from label to);
  next = λ from to. gather_none c.args.dim (Leads c.args.direction from to) (InTable c.none-sets.result.next from to) c.args.edges.now (c.none-sets.ensures.next from to);
}

pub loop-edge-preserved : goal.loop-edge-preserved
loop-edge-preserved c =
    let newest = get_or c.args.edges.now c.loop-edge.edge-index (edge 0 0 0 0) in
    let at = get_or_default c.args.edges.now c.loop-edge.edge-index (edge 0 0 0 0) newest c.loop-edge-test.true in
    elim c.if-edge-dim.branch [
      | then-edge-dim w ↦ rw w.sets-is (record {
        by_label = λ from label to. gather_here c.args.dim (LeadsBy c.args.direction from label to) (InBy c.loop-edge.sets.by_label from label to) (InBy w.add.new.self.by_label from label to) c.args.edges.now c.loop-edge.edge-index newest c.loop-edge-test.true at w.if-edge-dim.true (w.add.ensures.by_label from label to) (c.loop-edge.invariant.by_label from label to);
        next = λ from to. gather_here c.args.dim (Leads c.args.direction from to) (InTable c.loop-edge.sets.next from to) (InTable w.add.new.self.next from to) c.args.edges.now c.loop-edge.edge-index newest c.loop-edge-test.true at w.if-edge-dim.true (w.add.ensures.next from to) (c.loop-edge.invariant.next from to);
      })
      | else-edge-dim w ↦ rw w.sets-is (record {
        by_label = λ from label to. gather_over c.args.dim (LeadsBy c.args.direction from label to) (InBy c.loop-edge.sets.by_label from label to) c.args.edges.now c.loop-edge.edge-index newest c.loop-edge-test.true at w.if-edge-dim.false (c.loop-edge.invariant.by_label from label to);
        next = λ from to. gather_over c.args.dim (Leads c.args.direction from to) (InTable c.loop-edge.sets.next from to) c.args.edges.now c.loop-edge.edge-index newest c.loop-edge-test.true at w.if-edge-dim.false (c.loop-edge.invariant.next from to);
      })
    ]

pub returns-clause-by_label : goal.returns-clause-by_label
returns-clause-by_label c = λ from label to. gather_all c.args.dim (LeadsBy c.args.direction from label to) (InBy c.loop-edge.sets.by_label from label to) c.args.edges.now c.loop-edge.edge-index (let l : length c.args.edges.now ≤ c.loop-edge.edge-index = omega arith in l) (c.loop-edge.invariant.by_label from label to)

pub returns-clause-next : goal.returns-clause-next
returns-clause-next c = λ from to. gather_all c.args.dim (Leads c.args.direction from to) (InTable c.loop-edge.sets.next from to) c.args.edges.now c.loop-edge.edge-index (let l : length c.args.edges.now ≤ c.loop-edge.edge-index = omega arith in l) (c.loop-edge.invariant.next from to)

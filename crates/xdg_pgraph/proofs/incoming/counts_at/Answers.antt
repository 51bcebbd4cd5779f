use Rattle.xdg_problem.specs.Boxes.{May, Must}
use Rattle.xdg_rules.specs.Rules.{may_edges, must_edges}
use Rattle.xdg_rules.proofs.Shrinking.{may_exact, must_exact}
use Rattle.xdg_pgraph.proofs.LabelCounts.{into_counted}
use Rattle.xdg_pgraph.proofs.incoming.counts_at.Goals as goal

pub returns : goal.returns
returns c = record {
  may = into_counted (may_edges c.args.store.now.parts c.args.store.now.now c.args.plane.now.dim.0) c.args.store.now.parts (May c.args.store.now.parts c.args.store.now.now) c.args.plane.now.dim.0
      c.args.daughter c.labels_into-into.result.may (may_exact c.args.store.now.parts c.args.store.now.now c.args.plane.now.dim.0) c.labels_into-into.ensures.may c.count.result c.count.ensures;
  must = into_counted (must_edges c.args.store.now.parts c.args.store.now.now c.args.plane.now.dim.0) c.args.store.now.parts (Must c.args.store.now.parts c.args.store.now.now) c.args.plane.now.dim.0
      c.args.daughter c.labels_into-into.result.must (λ e. must_exact c.args.store.now.parts c.args.store.now.now c.args.plane.now.dim.0 e c.requires.known.is_box) c.labels_into-into.ensures.must
      c.count-2.result c.count-2.ensures;
}

use Rattle.std.proofs.Common.{arith}
use Rattle.xdg_graph.proofs.Labelled.{place_between}
use Rattle.xdg_plink.proofs.parting.must_join.Goals as goal

pub must-requires : goal.must-requires
must-requires c = place_between c.args.store.now.parts c.args.dim.0 c.args.mother.0 c.loop-label.label c.args.daughter.0 c.requires.mother c.requires.daughter c.requires.differ
    (let e = c.labels_of-label-end.ensures.count in let t = c.loop-label-test.true in omega (arith, e, t))

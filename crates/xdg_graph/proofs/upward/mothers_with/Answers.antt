use Rattle.xdg_graph.proofs.ByRow.{mothers_by_rows, rows_there}
use Rattle.xdg_graph.proofs.upward.mothers_with.Goals as goal

pub mothers_by_label-requires : goal.mothers_by_label-requires
mothers_by_label-requires c = rows_there c.args.store.now.parts c.args.dim.0 c.args.daughter.0 c.args.labels c.requires.node c.requires.labels

pub returns-clause-exact : goal.returns-clause-exact
returns-clause-exact c = mothers_by_rows c.args.which c.args.store.now.parts c.args.store.now.now c.args.dim.0 c.args.daughter.0 c.args.labels c.mothers_by_label.result.now c.mothers_in_some.result c.mothers_by_label.ensures.known.is_box c.requires.node c.requires.labels c.mothers_by_label.ensures.mothers c.mothers_in_some.ensures

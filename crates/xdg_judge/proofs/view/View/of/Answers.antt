use Rattle.xdg_judge.proofs.Viewing.{view_of}
use Rattle.xdg_judge.proofs.view.View.of.Goals as goal

pub returns-clause-view : goal.returns-clause-view
returns-clause-view c = view_of c.args.parts.now c.args.group.now c.args.analysis.now c.as_slice-edges.result.now c.dim_of-first_dim.result c.dim_of-second_dim.result c.of.result c.of-2.result c.requires.problem c.requires.fits c.as_slice-edges.ensures c.dim_of-first_dim.ensures c.dim_of-second_dim.ensures c.of.ensures c.of-2.ensures

use Rattle.std.proofs.Common.{refl}
use Rattle.xdg_problem.specs.Arguments.{first_dim}
use Rattle.xdg_problem.specs.Paths.{edges_on}
use Rattle.xdg_judge.proofs.Skipping.{enclosed}
use Rattle.xdg_judge.proofs.skips.encloses.Goals as goal

pub returns : goal.returns
returns c = λ t w h. enclosed (edges_on (first_dim c.args.view.now.group.now) c.args.view.now.analysis.now.edges) c.args.view.now.first c.args.u c.args.v c.args.u c.args.v w c.between-between.result c.requires.view.first_links c.between-between.ensures.members (c.leads_to_all.ensures t) refl refl h

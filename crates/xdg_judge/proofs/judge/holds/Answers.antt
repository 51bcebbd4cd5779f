use Rattle.xdg_judge.specs.Verdicts.{tuple_of}
use Rattle.xdg_judge.proofs.Judging.{not_holds}
use Rattle.xdg_judge.proofs.judge.holds.Goals as goal

pub returns-in-Broken : goal.returns-in-Broken
returns-in-Broken c = λ given. not_holds c.parts-parts.result.now c.args.problem.now c.as_slice.result.now c.args.group c.index-as_slice-group.result given c.args.analysis.now c.in-Broken.condition (tuple_of c.in-Broken.tuple) c.parts-parts.ensures.same c.as_slice.ensures c.requires.within c.index-as_slice-group.is c.in-Broken.ensures

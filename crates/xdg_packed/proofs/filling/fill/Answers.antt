use Rattle.std.specs.Option.{option_copied}
use Rattle.xdg_domain.specs.Shapes.{shape}
use Rattle.xdg_packed.proofs.Laws.{told_lacks, told_right}
use Rattle.xdg_packed.proofs.filling.fill.Goals as goal

pub returns-clause-lacks : goal.returns-clause-lacks
returns-clause-lacks c = told_lacks (shape c.args.ty.now) c.requires.right (option_copied c.args.said) c.filled.result c.filled.ensures

pub returns-clause-value : goal.returns-clause-value
returns-clause-value c = told_right (shape c.args.ty.now) c.requires.right (option_copied c.args.said) c.requires.said c.filled.result c.filled.ensures

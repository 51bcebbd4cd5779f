use Rattle.xdg_domain.specs.Shapes.{shape}
use Rattle.xdg_domain.proofs.JoinLaws.{told_joins, told_value}
use Rattle.xdg_domain.proofs.joining.join.Goals as goal

pub returns-clause-joins : goal.returns-clause-joins
returns-clause-joins c = told_joins (shape c.args.ty.now) c.args.one.now c.args.other.now _ c.requires.one c.requires.other c.in_ok-join_values.ensures

pub returns-clause-value : goal.returns-clause-value
returns-clause-value c = told_value (shape c.args.ty.now) c.args.one.now c.args.other.now _ c.requires.one c.requires.other c.in_ok-join_values.ensures

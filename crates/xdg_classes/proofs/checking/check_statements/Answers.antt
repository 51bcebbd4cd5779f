use Rattle.xdg_classes.proofs.Telling.{some_turn, some_end}
use Rattle.xdg_classes.proofs.checking.check_statements.Goals as goal

pub loop-statement-preserved : goal.loop-statement-preserved
loop-statement-preserved c = some_turn _ _ _ _ _ _ _ c.loop-statement-test.true c.statement-item.is c.in_ok-check_statement.ensures c.earlier-found.ensures c.loop-statement.invariant

pub returns : goal.returns
returns c = some_end _ _ _ _ c.loop-statement-test.false c.loop-statement.invariant

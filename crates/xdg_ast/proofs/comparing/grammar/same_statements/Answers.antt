use Rattle.xdg_ast.proofs.Mapped.{differ_part_at}
use Rattle.xdg_ast.proofs.comparing.grammar.same_statements.Goals as goal

pub returns-then-not-same_statement : goal.returns-then-not-same_statement
returns-then-not-same_statement c = differ_part_at _ _ _ _ _ _ _ c.loop-at-test.true c.same_statement.ensures c.if-not-same_statement.true

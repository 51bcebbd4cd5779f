use Rattle.xdg_ast.proofs.Mapped.{differ_part_at}
use Rattle.xdg_ast.proofs.comparing.grammar.same_parts.Goals as goal

pub returns-then-not-same_part : goal.returns-then-not-same_part
returns-then-not-same_part c = differ_part_at _ _ _ _ _ _ _ c.loop-at-test.true c.same_part.ensures c.if-not-same_part.true

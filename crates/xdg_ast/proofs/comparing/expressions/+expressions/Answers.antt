use Rattle.xdg_ast.proofs.Bared.{same_expr_and, same_expr_or}
use Rattle.xdg_ast.proofs.Mapped.{differ_part_at}
use Rattle.xdg_ast.proofs.comparing.expressions.+expressions.Goals as goal

pub same_expr-returns-in-Or-Or : goal.same_expr-returns-in-Or-Or
same_expr-returns-in-Or-Or t c = same_expr_or _ _ _ _ _ _ _ c.in-Or-Or.is-0 c.in-Or-Or.is-1 c.as_slice.ensures c.as_slice-in-Or-Or.ensures c.same_exprs.ensures

pub same_expr-returns-in-And-And : goal.same_expr-returns-in-And-And
same_expr-returns-in-And-And t c = same_expr_and _ _ _ _ _ _ _ c.in-And-And.is-0 c.in-And-And.is-1 c.as_slice-in-And-And.ensures c.as_slice-in-And-And-2.ensures c.same_exprs-in-And-And.ensures

pub same_exprs-returns-then-not-same_expr : goal.same_exprs-returns-then-not-same_expr
same_exprs-returns-then-not-same_expr t c = differ_part_at _ _ _ _ _ _ _ c.loop-at-test.true c.same_expr.ensures c.if-not-same_expr.true

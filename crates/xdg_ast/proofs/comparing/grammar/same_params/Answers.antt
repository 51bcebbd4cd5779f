use Rattle.xdg_ast.proofs.comparing.grammar.same_params.Goals as goal
use Rattle.xdg_facts.proofs.Mapped.{differ_read}

pub returns-then-not-same_param : goal.returns-then-not-same_param
returns-then-not-same_param c = differ_read _ _ _ _ _ _ _ c.loop-at-test.true c.index-one-at.is c.index-other-at.is c.same_param.ensures c.if-not-same_param.true

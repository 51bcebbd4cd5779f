use Rattle.xdg_ast.proofs.comparing.names.same_names.Goals as goal
use Rattle.xdg_facts.proofs.Mapped.{differ_read}

pub returns-then-not-same_name : goal.returns-then-not-same_name
returns-then-not-same_name c = differ_read _ _ _ _ _ _ _ c.loop-at-test.true c.index-one-at.is c.index-other-at.is c.same_name.ensures c.if-not-same_name.true

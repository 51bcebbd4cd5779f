use Rattle.xdg_ast.proofs.comparing.names.same_pairs.Goals as goal
use Rattle.xdg_facts.proofs.Mapped.{differ_read}

pub returns-then-not-same_named : goal.returns-then-not-same_named
returns-then-not-same_named c = differ_read _ _ _ _ _ _ _ c.loop-at-test.true c.index-one-at.is c.index-other-at.is c.same_named.ensures c.if-not-same_named.true

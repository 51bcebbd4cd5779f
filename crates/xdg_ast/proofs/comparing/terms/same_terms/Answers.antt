use Rattle.xdg_ast.proofs.comparing.terms.same_terms.Goals as goal
use Rattle.xdg_facts.proofs.Mapped.{differ_read}

pub returns-then-not-same_valued : goal.returns-then-not-same_valued
returns-then-not-same_valued c = differ_read _ _ _ _ _ _ _ c.loop-at-test.true c.index-one-at.is c.index-other-at.is c.same_valued.ensures c.if-not-same_valued.true

use Rattle.xdg_domain.proofs.comparing.same_cards.Goals as goal
use Rattle.xdg_facts.proofs.Mapped.{differ_key, differ_value}

pub returns-then-one-at : goal.returns-then-one-at
returns-then-one-at c = differ_key _ _ _ _ _ c.loop-at-test.true c.if-one-at.true

pub returns-then-not-equals : goal.returns-then-not-equals
returns-then-not-equals c = differ_value _ _ _ _ _ _ c.loop-at-test.true c.equals.ensures c.if-not-equals.true

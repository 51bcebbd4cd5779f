use Rattle.xdg_ast.proofs.comparing.names.same_nums.Goals as goal
use Rattle.xdg_facts.proofs.Mapped.{differ_at}

pub returns-then-not-same_num : goal.returns-then-not-same_num
returns-then-not-same_num c = differ_at _ _ _ _ _ _ _ c.loop-at-test.true c.same_num.ensures c.if-not-same_num.true

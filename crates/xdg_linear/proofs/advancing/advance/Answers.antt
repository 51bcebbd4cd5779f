use Rattle.std.proofs.Common.{refl}
use Rattle.xdg_linear.proofs.Nexts.{falling_is_last, turned_is_next}
use Rattle.xdg_linear.proofs.advancing.advance.Goals as goal

pub returns-in-None-clause-last : goal.returns-in-None-clause-last
returns-in-None-clause-last c = λ _. (refl, falling_is_last c.args.numbers.now c.in-None.ensures)

pub returns-in-Some-clause-next : goal.returns-in-Some-clause-next
returns-in-Some-clause-next c = λ _. turned_is_next c.args.numbers.now c.swap.new.self c.turn.new.numbers c.in-Some.at c.successor-other.result c.in-Some.ensures c.successor-other.ensures c.swap.ensures.after c.turn.ensures

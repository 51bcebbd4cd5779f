use Rattle.std.proofs.Common.{◌∙◌, sym}
use Rattle.xdg_print.proofs.defaults.is_full.Goals as goal
use Rattle.xdg_facts.proofs.Texts.{other_length}

pub returns-then-numbers-from : goal.returns-then-numbers-from
returns-then-numbers-from c = other_length c.args.numbers.now c.args.count (λ e. c.if-numbers-from.true (e ∙ sym c.from.ensures))

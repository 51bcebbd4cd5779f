use Rattle.xdg_store.proofs.labels.first_labels.Goals as goal
use Rattle.xdg_facts.proofs.Words.{all_bits, first_bits}

pub returns-then-count-lt32 : goal.returns-then-count-lt32
returns-then-count-lt32 c = first_bits c.args.count c.args.wanted c.if-count-lt32.true c.if-not-wanted.false

pub returns : goal.returns
returns c = all_bits c.args.count c.args.wanted c.requires c.if-count-lt32.false c.if-not-wanted.false

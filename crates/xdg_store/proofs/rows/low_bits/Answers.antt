use Rattle.xdg_store.proofs.rows.low_bits.Goals as goal
use Rattle.xdg_facts.proofs.Words.{full_mask, low_mask}

pub returns-then-count-lt64 : goal.returns-then-count-lt64
returns-then-count-lt64 c = low_mask c.args.count c.if-count-lt64.true

pub returns : goal.returns
returns c = full_mask c.args.count c.if-count-lt64.false

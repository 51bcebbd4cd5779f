use Rattle.xdg_store.proofs.rows.bit_of.Goals as goal
use Rattle.xdg_facts.proofs.Words.{bit_mask}

pub returns : goal.returns
returns c = bit_mask c.args.value c.args.first c.if-value-first.false c.if-value-first-ge64.false

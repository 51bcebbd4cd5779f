use Rattle.std.specs.Int.{w32}
use Rattle.std.proofs.lemmas.Nat.Bits.{bit_at_set_other}
use Rattle.xdg_store.proofs.labels.with_bit_if.Goals as goal
use Rattle.xdg_facts.proofs.Words.{clear_here, clear_others, set_here}

pub returns-then-wanted-clause-here : goal.returns-then-wanted-clause-here
returns-then-wanted-clause-here c = set_here c.args.word c.args.bit c.args.wanted c.requires c.if-wanted.true

pub returns-then-wanted-clause-others : goal.returns-then-wanted-clause-others
returns-then-wanted-clause-others c i other = bit_at_set_other w32 c.args.word c.args.bit c.requires i other

pub returns-clause-here : goal.returns-clause-here
returns-clause-here c = clear_here c.args.word c.args.bit c.args.wanted c.requires c.if-wanted.false

pub returns-clause-others : goal.returns-clause-others
returns-clause-others c = clear_others c.args.word c.args.bit c.ranges.word.fits c.requires

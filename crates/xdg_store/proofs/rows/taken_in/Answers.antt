use Rattle.xdg_store.proofs.OneBlock.{taken_here, taken_nowhere}
use Rattle.xdg_store.proofs.rows.taken_in.Goals as goal

pub returns-then-place-block : goal.returns-then-place-block
returns-then-place-block c i = taken_here c.args.block c.args.taken c.args.place i c.if-place-block.true

pub returns : goal.returns
returns c i = taken_nowhere c.args.block c.args.taken c.args.place i c.if-place-block.false

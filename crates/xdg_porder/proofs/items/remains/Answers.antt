use Rattle.std.proofs.Common.{arith}
use Rattle.std.proofs.lemmas.Bool.{false≢true}
use Rattle.xdg_graph.proofs.SlotValues.{slot_below}
use Rattle.xdg_porder.proofs.items.remains.Goals as goal

pub returns-then-value-slot : goal.returns-then-value-slot
returns-then-value-slot c = (
  λ t. absurd (false≢true t),
  λ has. absurd (let l = slot_below c.args.store.now c.args.slot c.args.value c.requires.known c.requires.slot has in let p = c.if-value-slot.true in omega (arith, l, p)),
)

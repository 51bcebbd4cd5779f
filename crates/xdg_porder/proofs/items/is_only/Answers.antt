use Rattle.std.proofs.Common.{refl, arith}
use Rattle.xdg_graph.proofs.SlotValues.{slot_below}
use Rattle.xdg_porder.proofs.items.is_only.Goals as goal

pub returns : goal.returns
returns c = (
  λ t x has. c.loop-other.invariant x (let l = slot_below c.args.store.now c.args.slot x c.requires.known c.requires.slot has in let n = c.loop-other-test.false in omega (arith, l, n)) has,
  λ only. refl,
)

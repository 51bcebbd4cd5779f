use Rattle.std.proofs.Common.{subst, sym, arith}
use Rattle.std.proofs.lemmas.Bool.{false≢true}
use Rattle.xdg_problem.specs.Boxes.{Has}
use Rattle.xdg_graph.proofs.SlotValues.{slot_below}
use Rattle.xdg_porder.proofs.items.is_own_decided.Goals as goal

pub returns : goal.returns
returns c = (
  λ t. absurd (false≢true t),
  λ (v, has, only). absurd (c.loop-value.invariant v (let l = slot_below c.args.store.now c.slot_of-value-end.result v c.requires.0.0.known c.slot_of-value-end.ensures.slot (subst (λ d. Has c.args.store.now.now d v) (sym c.slot_of-value-end.ensures.decision) has) in let n = c.loop-value-test.false in omega (arith, l, n)) (has, only)),
)

use Rattle.xdg_terms.proofs.Straying.{elem_turn, braces_done}
use Rattle.xdg_terms.proofs.stray.+stray_in.Goals as goal

pub stray_in-loop-elem-preserved : goal.stray_in-loop-elem-preserved
stray_in-loop-elem-preserved t c = elem_turn c.args.params.now _ _ _ _ _ _ _ c.loop-elem-test.true c.elem-item.is c.stray_elem.ensures c.earlier-found.ensures c.loop-elem.invariant

pub stray_in-returns-after-loop-elem : goal.stray_in-returns-after-loop-elem
stray_in-returns-after-loop-elem t c = braces_done c.args.params.now c.args.kind.now c.in-Braces.elems c.as_slice-elem-items.result.now c.loop-elem.elem-index c.loop-elem.found c.in-Braces.is c.as_slice-elem-items.ensures c.loop-elem-test.false c.loop-elem.invariant

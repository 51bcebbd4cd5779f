use Rattle.xdg_domain.specs.Shapes.{shape}
use Rattle.xdg_terms.proofs.Placing.{listed_set}
use Rattle.xdg_terms.proofs.set_values.listed.Goals as goal

pub returns : goal.returns
returns c = listed_set (shape c.args.ty.now) c.args.elems.now c.loop-elem.elem-index c.loop-elem.numbers.items c.as_slice.result.now c.of.result c.loop-elem-test.false c.loop-elem.invariant c.as_slice.ensures.value c.of.ensures.members c.of.ensures.rising

use Rattle.xdg_typing.proofs.Layers.{tuple_told}
use Rattle.xdg_typing.proofs.wanted.is_attribute_head.Goals as goal

pub returns-in-Tuple : goal.returns-in-Tuple
returns-in-Tuple c = λ names known is_head. tuple_told names _ _ _ _ c.in-Tuple.is c.as_slice.ensures (c.has_no_tuple.ensures names known)

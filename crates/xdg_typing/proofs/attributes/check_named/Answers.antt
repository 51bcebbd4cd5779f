use Rattle.xdg_typing.proofs.Members.{named_record}
use Rattle.xdg_typing.proofs.attributes.check_named.Goals as goal

pub returns-in-Rec : goal.returns-in-Rec
returns-in-Rec c = λ names known is_head.
    named_record names _ _ _ _ _ _ _ _ _ c.in-Rec.is c.len.ensures c.as_slice.ensures (c.has_other.ensures names known) c.check_count.ensures c.check_others.ensures c.earlier.ensures

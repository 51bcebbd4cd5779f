use Rattle.std.proofs.Common.{refl}
use Rattle.xdg_typing.proofs.Walked.{alone}
use Rattle.xdg_typing.proofs.walk.check_alone.Goals as goal

pub returns : goal.returns
returns c = λ names known.
    alone names _ _ _ _ _ _ _ _ _ _ _ _ _ _ (c.check_kind-kind.ensures names known) c.check_size-size.ensures (c.constants_of.ensures names known) refl c.check_labels-labels.ensures (c.check_width-width.ensures names known)
    (c.check_attributes-attributes.ensures names known) c.earlier.ensures c.earlier-2.ensures c.earlier-3.ensures c.earlier-4.ensures

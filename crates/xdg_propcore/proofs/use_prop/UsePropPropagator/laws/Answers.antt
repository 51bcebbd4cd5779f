use Rattle.xdg_propcore.specs.Uses.{no_use, use_at}
use Rattle.xdg_propcore.proofs.Unseen.{loses_unseen}
use Rattle.xdg_propcore.proofs.use_prop.UsePropPropagator.laws.Goals as goal

pub returns-clause-stays_still : goal.returns-clause-stays_still
returns-clause-stays_still g c p parts number old new problem mine was is inside outside still k here =
    c.stays.ensures parts (use_at parts k) old new problem (problem.groups k no_use here.0) here.1.family (loses_unseen parts (use_at parts k) p.wakes.0 old new here.1.kinds was is inside outside) (still k here)

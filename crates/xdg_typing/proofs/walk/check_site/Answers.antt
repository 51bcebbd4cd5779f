use Rattle.xdg_typing.specs.KindFaults.{asked, alone_faults, shared_faults}
use Rattle.xdg_types.specs.Written.{tree}
use Rattle.xdg_typing.proofs.Walked.{joined}
use Rattle.xdg_typing.proofs.walk.check_site.Goals as goal

pub returns : goal.returns
returns c = λ names known.
    let t = tree c.args.ty.now.kind in
    joined (alone_faults names (asked c.args.wanted) c.args.ty.now.span.start t) (shared_faults names t) _ _ _ (c.check_alone.ensures names known) (c.in_ok-shared.ensures names known) c.earlier.ensures

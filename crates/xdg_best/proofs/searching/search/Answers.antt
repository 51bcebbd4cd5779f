use Rattle.std.proofs.Common.{List, Ok, subst, sym}
use Rattle.std.proofs.lemmas.Fn.{says_at}
use Rattle.xdg_propcore.specs.Uses.{AllStandIn}
use Rattle.xdg_best.proofs.searching.search.Goals as goal

pub start-requires-clause-stand : goal.start-requires-clause-stand
start-requires-clause-stand g c =
    subst (λ (z : List g.row.P.Denot). AllStandIn g.P.Propagator.stands z c.args.problem.now) (sym c.as_slice.ensures)
    (c.requires.stand c.args.problem.now (Ok c.in_ok-props.props) (says_at g.F.Fn c.make.ensures c.in_ok-props.was))

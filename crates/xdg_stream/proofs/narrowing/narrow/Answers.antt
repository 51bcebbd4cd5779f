use Rattle.std.proofs.Common.{◌≡◌, sym, subst}
use Rattle.std.specs.Int.{bit_at}
use Rattle.std.specs.Prelude.{All}
use Rattle.xdg_propcore.specs.Uses.{StandsIn}
use Rattle.xdg_propcore.proofs.Settling.{extends_both}
use Rattle.xdg_propcore.specs.Kinds.{kind_of}
use Rattle.xdg_problem.specs.Problems.{IsProblem}
use Rattle.xdg_store.specs.Decisions.{IsDecision, number_of}
use Rattle.xdg_stream.specs.Levels.{AllStill}
use Rattle.xdg_stream.proofs.Since.{restricted_from}
use Rattle.xdg_stream.proofs.Longer.{same_at, emptied_at, settled_at, dead_at}
use Rattle.xdg_stream.proofs.narrowing.narrow.Goals as goal

pub settle_since-requires-clause-stand : goal.settle_since-requires-clause-stand
settle_since-requires-clause-stand g c = subst (λ q. All (λ p. StandsIn (g.P.Propagator.stands p) q) c.args.props.now) (sym c.in-Changed.ensures.extends.same) c.requires.stand.each

pub settle_since-requires-clause-were : goal.settle_since-requires-clause-were
settle_since-requires-clause-were g c = restricted_from g.P.Propagator.still c.args.props.now c.args.store.now c.restrict.new.store c.mark-since.result c.kind_of-lost.result.0 (number_of c.args.store.now.parts c.args.decision)
    c.requires.known c.requires.still c.mark-since.ensures.mark c.mark-since.ensures.last c.in-Changed.ensures.extends c.in-Changed.ensures.only
    (subst (λ q. bit_at c.kind_of-lost.result.0 (kind_of q (number_of q c.args.decision)) ≡ 1) c.problem.ensures.parts c.kind_of-lost.ensures)

pub kind_of-lost-requires-clause-problem : goal.kind_of-lost-requires-clause-problem
kind_of-lost-requires-clause-problem g c = subst IsProblem (sym c.problem.ensures.parts) c.requires.known.problem

pub kind_of-lost-requires-clause-is : goal.kind_of-lost-requires-clause-is
kind_of-lost-requires-clause-is g c = subst (λ q. IsDecision q c.args.decision) (sym c.problem.ensures.parts) c.requires.is

pub returns-in-Same-clause-narrows : goal.returns-in-Same-clause-narrows
returns-in-Same-clause-narrows g c p is level = same_at c.args.store.now.parts p c.args.value (number_of c.args.store.now.parts c.args.decision) c.args.size c.args.store.now.now c.restrict.new.store.now is c.requires.size c.requires.value level c.in-Same.ensures.restricts

pub returns-in-Settled-clause-extends : goal.returns-in-Settled-clause-extends
returns-in-Settled-clause-extends g c = extends_both c.args.store.now c.restrict.new.store c.settle_since.new.store c.in-Changed.ensures.extends c.in-Settled.ensures.extends

pub returns-in-Settled-clause-narrows : goal.returns-in-Settled-clause-narrows
returns-in-Settled-clause-narrows g c p is level = settled_at c.args.store.now.parts p c.args.value (number_of c.args.store.now.parts c.args.decision) c.args.size c.args.store.now.now c.restrict.new.store.now is c.requires.size c.requires.value level g.P.Propagator.stands c.args.props.now c.restrict.new.store.parts c.requires.stand c.in-Changed.ensures.extends.same c.in-Changed.ensures.restricts c.settle_since.new.store.now c.in-Settled.ensures.settles

pub returns-in-Dead-clause-extends : goal.returns-in-Dead-clause-extends
returns-in-Dead-clause-extends g c = extends_both c.args.store.now c.restrict.new.store c.settle_since.new.store c.in-Changed.ensures.extends c.in-Dead.ensures.extends

pub returns-in-Dead-clause-narrows : goal.returns-in-Dead-clause-narrows
returns-in-Dead-clause-narrows g c p is level = dead_at c.args.store.now.parts p c.args.value (number_of c.args.store.now.parts c.args.decision) c.args.size c.args.store.now.now c.restrict.new.store.now is c.requires.size c.requires.value level g.P.Propagator.stands c.args.props.now c.restrict.new.store.parts c.requires.stand c.in-Changed.ensures.extends.same c.in-Changed.ensures.restricts c.in-Dead.ensures.settles

pub returns-in-Emptied-clause-narrows : goal.returns-in-Emptied-clause-narrows
returns-in-Emptied-clause-narrows g c p is level = emptied_at c.args.store.now.parts p c.args.value (number_of c.args.store.now.parts c.args.decision) c.args.size c.args.store.now.now c.restrict.new.store.now is c.requires.size c.requires.value level c.in-Emptied.ensures.restricts

pub returns-in-Same-clause-still : goal.returns-in-Same-clause-still
returns-in-Same-clause-still g c t =
    let calm = AllStill g.P.Propagator.still c.args.props.now in
    subst (calm c.restrict.new.store.parts) (sym c.in-Same.ensures.restricts.0) (subst (λ q. calm q c.args.store.now.now) (sym c.in-Same.ensures.extends.same) c.requires.still)

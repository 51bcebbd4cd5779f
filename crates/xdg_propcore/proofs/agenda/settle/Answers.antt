use Rattle.std.proofs.Common.{◌≡◌, ◌∙◌, ap, arith, length, sym}
use Rattle.std.proofs.lemmas.List.{length-map}
use Rattle.xdg_propcore.specs.declared.wake.Wake.{Wake}
use Rattle.xdg_propcore.proofs.Analyses.{all_kept}
use Rattle.xdg_propcore.proofs.Holding.{none_held}
use Rattle.xdg_propcore.proofs.Settling.{none_sleeps, on_within}
use Rattle.xdg_propcore.proofs.agenda.settle.Goals as goal

pub run-requires-clause-awake : goal.run-requires-clause-awake
run-requires-clause-awake g c =
    let n : length c.agenda.inside.wakes.items ≡ length c.args.props.now = sym (length-map c.agenda.inside.wakes.items (λ (w : Wake). w.0)) ∙ ap length (c.agenda.view_is ∙ c.requires.agenda) ∙ length-map c.args.props.now g.P.Propagator.kinds in
    c.wake_all.ensures.length ∙ c.agenda.invariant.0 ∙ n

pub run-requires-clause-asleep : goal.run-requires-clause-asleep
run-requires-clause-asleep g c =
    let n : length c.agenda.inside.wakes.items ≡ length c.args.props.now = sym (length-map c.agenda.inside.wakes.items (λ (w : Wake). w.0)) ∙ ap length (c.agenda.view_is ∙ c.requires.agenda) ∙ length-map c.args.props.now g.P.Propagator.kinds in
    none_sleeps g.P.Propagator.stands g.P.Propagator.still g.P.Propagator.kinds c.args.props.now c.wake_all.new.self c.args.store.now.parts c.args.store.now.now (c.wake_all.ensures.length ∙ c.agenda.invariant.0 ∙ n)
    (λ at l. c.wake_all.ensures.all at (let e = c.wake_all.ensures.length in omega (arith, e, l)))

pub run-requires-clause-rests : goal.run-requires-clause-rests
run-requires-clause-rests g c =
    let n : length c.agenda.inside.wakes.items ≡ length c.args.props.now = sym (length-map c.agenda.inside.wakes.items (λ (w : Wake). w.0)) ∙ ap length (c.agenda.view_is ∙ c.requires.agenda) ∙ length-map c.args.props.now g.P.Propagator.kinds in
    none_held g.P.Propagator.still c.args.props.now c.args.store.now c.forget_all.new.self (c.forget_all.ensures.length ∙ c.agenda.invariant.1 ∙ n) c.forget_all.ensures.each

pub returns-clause-turns : goal.returns-clause-turns
returns-clause-turns g c =
    let n : length c.agenda.inside.wakes.items ≡ length c.args.props.now = sym (length-map c.agenda.inside.wakes.items (λ (w : Wake). w.0)) ∙ ap length (c.agenda.view_is ∙ c.requires.agenda) ∙ length-map c.args.props.now g.P.Propagator.kinds in
    let t = c.run.ensures.turns in
    let w = on_within c.wake_all.new.self in
    let e = c.wake_all.ensures.length in
    let i = c.agenda.invariant.0 in
    omega (arith, t, w, e, i, n)

pub returns-clause-analyses : goal.returns-clause-analyses
returns-clause-analyses g c analysis is satisfies inside = all_kept g.P.Propagator.stands c.args.props.now c.args.store.now c.run.new.store c.run.ensures.known c.run.ensures.extends.same analysis is satisfies inside c.run.result c.run.ensures.settles

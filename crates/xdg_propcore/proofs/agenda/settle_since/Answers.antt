use Rattle.std.proofs.Common.{◌≡◌, ◌∙◌, ap, arith, length, map, sym}
use Rattle.std.proofs.lemmas.List.{length-map}
use Rattle.xdg_propcore.specs.declared.wake.Wake.{Wake}
use Rattle.xdg_propcore.proofs.Analyses.{all_kept}
use Rattle.xdg_propcore.proofs.Holding.{all_held}
use Rattle.xdg_propcore.proofs.Settling.{kinds_in, on_within, others_sleep}
use Rattle.xdg_propcore.proofs.agenda.settle_since.Goals as goal

pub run-requires-clause-awake : goal.run-requires-clause-awake
run-requires-clause-awake g c =
    let n : length c.agenda.inside.wakes.items ≡ length c.args.props.now = sym (length-map c.agenda.inside.wakes.items (λ (w : Wake). w.0)) ∙ ap length (c.agenda.view_is ∙ c.requires.agenda) ∙ length-map c.args.props.now g.P.Propagator.kinds in
    c.wake.ensures.length ∙ c.sleep_all.ensures.length ∙ c.agenda.invariant.0 ∙ n

pub run-requires-clause-asleep : goal.run-requires-clause-asleep
run-requires-clause-asleep g c =
    let long = length-map c.args.props.now g.P.Propagator.kinds in
    others_sleep g.P.Propagator.stands g.P.Propagator.still g.P.Propagator.kinds c.args.props.now c.args.store.now c.args.since c.args.lost.0 c.wake.new.awake c.turns.ensures.known c.requires.stand c.requires.were
    c.laws.ensures.stays_still
    (λ i m. kinds_in c.as_slice.result.now (map g.P.Propagator.kinds c.args.props.now) c.args.lost.0 (length c.args.props.now) c.wake.new.awake (ap (map (λ (w : Wake). w.0)) c.as_slice.ensures.value ∙ c.agenda.view_is ∙ c.requires.agenda) long c.wake.ensures.woken i (omega (arith, m, long)))

pub run-requires-clause-rests : goal.run-requires-clause-rests
run-requires-clause-rests g c =
    let n : length c.agenda.inside.wakes.items ≡ length c.args.props.now = sym (length-map c.agenda.inside.wakes.items (λ (w : Wake). w.0)) ∙ ap length (c.agenda.view_is ∙ c.requires.agenda) ∙ length-map c.args.props.now g.P.Propagator.kinds in
    all_held g.P.Propagator.still c.args.props.now c.args.store.now c.args.since c.set_all.new.self (c.set_all.ensures.length ∙ c.agenda.invariant.1 ∙ n) c.set_all.ensures.each c.requires.were.held

pub returns-clause-turns : goal.returns-clause-turns
returns-clause-turns g c =
    let n : length c.agenda.inside.wakes.items ≡ length c.args.props.now = sym (length-map c.agenda.inside.wakes.items (λ (w : Wake). w.0)) ∙ ap length (c.agenda.view_is ∙ c.requires.agenda) ∙ length-map c.args.props.now g.P.Propagator.kinds in
    let t = c.run.ensures.turns in
    let w = on_within c.wake.new.awake in
    let e = c.wake.ensures.length in
    let s = c.sleep_all.ensures.length in
    let i = c.agenda.invariant.0 in
    omega (arith, t, w, e, s, i, n)

pub returns-clause-analyses : goal.returns-clause-analyses
returns-clause-analyses g c analysis is satisfies inside = all_kept g.P.Propagator.stands c.args.props.now c.args.store.now c.run.new.store c.run.ensures.known c.run.ensures.extends.same analysis is satisfies inside c.run.result c.run.ensures.settles

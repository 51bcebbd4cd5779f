use Rattle.std.proofs.Common.{◌≢◌, ℕ, ◌<◌, ◌∙◌, subst, sym, length, map, get_or, arith, refl, rules}
use Rattle.std.proofs.lemmas.List.{length-map}
use lib.Bits.{bit_and}
use Rattle.xdg_propcore.specs.Flags.{IsOn}
use Rattle.xdg_facts.specs.Flags.{count_set}
use Rattle.xdg_propcore.proofs.Settling.{running_start, running_same, running_changed, running_dead, running_done, extends_both, done_turns, dead_turns, smaller_same, smaller_changed, my_use, kinds_in}
use Rattle.xdg_propcore.specs.Standing.{Held}
use Rattle.xdg_propcore.proofs.Holding.{are_held_on, held_now, held_set}
use Rattle.xdg_propcore.proofs.running.run.Goals as goal
use Rattle.xdg_facts.proofs.Lists.{true_within}

pub loop-at-init : goal.loop-at-init
loop-at-init g c = (running_start g.P.Propagator.stands g.P.Propagator.still g.P.Propagator.kinds c.args.props.now c.args.store.now (count_set c.args.awake.now) c.args.awake.now c.requires.known c.requires.awake c.requires.asleep (omega arith), c.requires.rests)

pub step-requires-clause-stands : goal.step-requires-clause-stands
step-requires-clause-stands g c =
    let l : c.in-Some.at < length c.args.props.now = (let e = c.loop-at.invariant.0.lengths in let q = true_within c.loop-at.awake c.in-Some.at c.in-Some.ensures.some in omega (arith, e, q)) in
    my_use g.P.Propagator.stands g.P.Propagator.still g.P.Propagator.kinds c.args.props.now c.args.store.now (count_set c.args.awake.now) c.loop-at.store c.in-Some.at c.index-props-at.result c.loop-at.invariant.0.extends l c.index-props-at.is c.requires.stand

pub step-requires-clause-held : goal.step-requires-clause-held
step-requires-clause-held g c mark some =
    let l : c.in-Some.at < length c.args.props.now = (let e = c.loop-at.invariant.0.lengths in let q = true_within c.loop-at.awake c.in-Some.at c.in-Some.ensures.some in omega (arith, e, q)) in
    subst (λ z. Held (g.P.Propagator.still z) c.loop-at.store mark) (sym c.index-props-at.is) (c.loop-at.invariant.1.each c.in-Some.at c.index-props-at.result l mark (sym c.mark_of.ensures ∙ some))

pub loop-at-smaller-in-Same : goal.loop-at-smaller-in-Same
loop-at-smaller-in-Same g c = smaller_same g.P.Propagator.stands g.P.Propagator.still g.P.Propagator.kinds c.args.props.now c.args.store.now (count_set c.args.awake.now) c.loop-at.store c.step.new.store c.loop-at.awake c.sleep.new.self c.in-Some.at c.in-Some.ensures.some c.sleep.ensures c.in-Same.ensures.moves

pub loop-at-preserved-in-Same : goal.loop-at-preserved-in-Same
loop-at-preserved-in-Same g c =
    let l : c.in-Some.at < length c.args.props.now = (let e = c.loop-at.invariant.0.lengths in let q = true_within c.loop-at.awake c.in-Some.at c.in-Some.ensures.some in omega (arith, e, q)) in (
      running_same g.P.Propagator.stands g.P.Propagator.still g.P.Propagator.kinds c.args.props.now c.args.store.now (count_set c.args.awake.now) c.loop-at.store c.step.new.store c.loop-at.awake c.sleep.new.self c.in-Some.at c.index-props-at.result c.loop-at.invariant.0 l c.in-Some.ensures.some c.index-props-at.is c.in-Same.ensures.extends c.in-Same.ensures.known (c.in-Same.ensures.same.0 refl) c.in-Same.ensures.moves (let t = c.in-Same.ensures.turns in omega (arith, t)) c.sleep.ensures,
      held_set g.P.Propagator.still c.args.props.now c.step.new.store c.mark.result c.in-Some.at c.index-props-at.result c.loop-at.rests c.set.new.self l c.index-props-at.is
          (held_now (g.P.Propagator.still c.index-props-at.result) c.step.new.store c.mark.result c.in-Same.ensures.known
          (subst (g.P.Propagator.still c.index-props-at.result c.step.new.store.parts) (sym c.in-Same.ensures.moves) (subst (λ q. g.P.Propagator.still c.index-props-at.result q c.loop-at.store.now) (sym c.in-Same.ensures.extends.same) (c.in-Same.ensures.same.0 refl)))
          c.mark.ensures.mark c.mark.ensures.last)
          c.set.ensures (are_held_on g.P.Propagator.still c.args.props.now c.loop-at.store c.step.new.store c.loop-at.rests c.in-Same.ensures.extends c.loop-at.invariant.1),
    )

pub loop-at-smaller : goal.loop-at-smaller
loop-at-smaller g c = smaller_changed g.P.Propagator.stands g.P.Propagator.still g.P.Propagator.kinds c.args.props.now c.args.store.now (count_set c.args.awake.now) c.loop-at.store c.step.new.store c.loop-at.awake c.wake.new.awake c.in-Changed.lost.0 c.loop-at.invariant.0 c.in-Changed.ensures.extends c.wake.ensures.small c.in-Changed.ensures.moves c.wake.ensures.length (subst (λ z. (i : ℕ) → IsOn c.wake.new.awake i → (IsOn c.loop-at.awake i → ⊥) → bit_and (get_or z i 0) c.in-Changed.lost.0 ≢ 0) c.requires.wakes c.wake.ensures.only)

pub loop-at-preserved : goal.loop-at-preserved
loop-at-preserved g c =
    let l : c.in-Some.at < length c.args.props.now = (let e = c.loop-at.invariant.0.lengths in let q = true_within c.loop-at.awake c.in-Some.at c.in-Some.ensures.some in omega (arith, e, q)) in (
      running_changed g.P.Propagator.stands g.P.Propagator.still g.P.Propagator.kinds c.args.props.now c.args.store.now (count_set c.args.awake.now) c.loop-at.store c.step.new.store c.loop-at.awake c.wake.new.awake c.in-Some.at c.index-props-at.result c.in-Changed.lost.0 _ c.loop-at.invariant.0 l c.index-props-at.is c.requires.stand c.in-Changed.ensures.extends c.in-Changed.ensures.known c.in-Changed.ensures.keeps (let t = c.in-Changed.ensures.turns in omega (arith, t)) c.wake.ensures.small c.in-Changed.ensures.moves
          c.laws.ensures.stays_still
          c.wake.ensures.length c.wake.ensures.kept
          (kinds_in c.args.wakes.now (map g.P.Propagator.kinds c.args.props.now) c.in-Changed.lost.0 (length c.args.props.now) c.wake.new.awake c.requires.wakes (length-map c.args.props.now g.P.Propagator.kinds) c.wake.ensures.woken)
          (subst (λ z. (i : ℕ) → IsOn c.wake.new.awake i → (IsOn c.loop-at.awake i → ⊥) → bit_and (get_or z i 0) c.in-Changed.lost.0 ≢ 0) c.requires.wakes c.wake.ensures.only),
      are_held_on g.P.Propagator.still c.args.props.now c.loop-at.store c.step.new.store c.loop-at.rests c.in-Changed.ensures.extends c.loop-at.invariant.1,
    )

pub returns-in-Dead-clause-extends : goal.returns-in-Dead-clause-extends
returns-in-Dead-clause-extends g c = extends_both c.args.store.now c.loop-at.store c.step.new.store c.loop-at.invariant.0.extends c.in-Dead.ensures.extends

pub returns-in-Dead-clause-settles : goal.returns-in-Dead-clause-settles
returns-in-Dead-clause-settles g c =
    let l : c.in-Some.at < length c.args.props.now = (let e = c.loop-at.invariant.0.lengths in let q = true_within c.loop-at.awake c.in-Some.at c.in-Some.ensures.some in omega (arith, e, q)) in
    running_dead g.P.Propagator.stands g.P.Propagator.still g.P.Propagator.kinds c.args.props.now c.args.store.now (count_set c.args.awake.now) c.loop-at.store c.step.new.store c.loop-at.awake c.in-Some.at c.index-props-at.result c.loop-at.invariant.0 l c.index-props-at.is (my_use g.P.Propagator.stands g.P.Propagator.still g.P.Propagator.kinds c.args.props.now c.args.store.now (count_set c.args.awake.now) c.loop-at.store c.in-Some.at c.index-props-at.result c.loop-at.invariant.0.extends l c.index-props-at.is c.requires.stand) c.in-Dead.ensures.keeps

pub returns-in-Dead-clause-turns : goal.returns-in-Dead-clause-turns
returns-in-Dead-clause-turns g c = dead_turns g.P.Propagator.stands g.P.Propagator.still g.P.Propagator.kinds c.args.props.now c.args.store.now (count_set c.args.awake.now) c.loop-at.store c.step.new.store c.loop-at.awake c.in-Some.at c.loop-at.invariant.0 c.in-Some.ensures.some c.in-Dead.ensures.extends (let t = c.in-Dead.ensures.turns in omega (arith, t))

pub returns-clause-turns : goal.returns-clause-turns
returns-clause-turns g c = done_turns g.P.Propagator.stands g.P.Propagator.still g.P.Propagator.kinds c.args.props.now c.args.store.now (count_set c.args.awake.now) c.loop-at.store c.loop-at.awake c.loop-at.invariant.0

pub mark_of-requires : goal.mark_of-requires
mark_of-requires g c = let e = c.loop-at.invariant.0.lengths in let n = c.loop-at.invariant.1.count in let q = true_within c.loop-at.awake c.in-Some.at c.in-Some.ensures.some in omega (arith, e, n, q)

pub set-requires : goal.set-requires
set-requires g c = let e = c.loop-at.invariant.0.lengths in let n = c.loop-at.invariant.1.count in let q = true_within c.loop-at.awake c.in-Some.at c.in-Some.ensures.some in omega (arith, e, n, q)

pub returns-clause-settles : goal.returns-clause-settles
returns-clause-settles g c =
    let none : (at : ℕ) → IsOn c.loop-at.awake at → ⊥ = search rules in
    running_done g.P.Propagator.stands g.P.Propagator.still g.P.Propagator.kinds c.args.props.now c.args.store.now (count_set c.args.awake.now) c.loop-at.store c.loop-at.awake c.loop-at.invariant.0 none c.laws.ensures.still_closed

pub asked_next-asked-requires-clause-place : goal.asked_next-asked-requires-clause-place
asked_next-asked-requires-clause-place g c = let e = c.loop-at.invariant.0.lengths in let n = c.loop-at.invariant.1.count in let q = true_within c.loop-at.awake c.in-Some.at c.in-Some.ensures.some in omega (arith, e, n, q)

pub asked_next-asked-requires-clause-mark : goal.asked_next-asked-requires-clause-mark
asked_next-asked-requires-clause-mark g c mark some =
    let l : c.in-Some.at < length c.args.props.now = (let e = c.loop-at.invariant.0.lengths in let q = true_within c.loop-at.awake c.in-Some.at c.in-Some.ensures.some in omega (arith, e, q)) in
    ((are_held_on g.P.Propagator.still c.args.props.now c.loop-at.store c.step.new.store c.loop-at.rests c.in-Changed.ensures.extends c.loop-at.invariant.1).each c.in-Some.at c.index-props-at.result l mark some).within

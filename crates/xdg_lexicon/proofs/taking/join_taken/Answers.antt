use Rattle.std.proofs.Common.{◌≡◌, ◌+◌, ◌-◌, get_or, rules, refl, sym, arith, subst}
use Rattle.xdg_lexicon.proofs.Taken.{taken_begun, mine_value, theirs_value, taken_clash, taken_further, taken_done}
use Rattle.xdg_lexicon.proofs.taking.join_taken.Goals.{After-index-fields-place}
use Rattle.xdg_lexicon.proofs.taking.join_taken.Goals as goal

pub loop-left-init : goal.loop-left-init
loop-left-init c = taken_begun c.args.fields.now c.args.one c.args.other _ c.in_ok-made.made refl c.in_ok-made.ensures c.requires.one c.requires.other

-- the last field that is left
here : (c : After-index-fields-place) → (c.in-Ok.key ≡ c.loop-left.left - 1) × ((c.in-Ok.key + 1 ≡ c.loop-left.left) × (c.index-fields-place.result ≡ get_or c.args.fields.now c.in-Ok.key c.index-fields-place.result))
here c =
    let same : c.in-Ok.key ≡ c.loop-left.left - 1 = search (rules, c.in-Ok.ensures) in
    (same, (omega (arith, same, c.loop-left-test.true), subst (λ n. c.index-fields-place.result ≡ get_or c.args.fields.now n c.index-fields-place.result) (sym same) c.index-fields-place.is))

pub join_values-requires-clause-one : goal.join_values-requires-clause-one
join_values-requires-clause-one c =
    let at = here (goal.at.join_values-requires-clause-one c).After-index-fields-place in
    mine_value _ at.1.0 c.loop-left.invariant c.take_last-mine.ensures.here c.take_last-theirs.ensures.here at.1.1 c.requires.one

pub join_values-requires-clause-other : goal.join_values-requires-clause-other
join_values-requires-clause-other c =
    let at = here (goal.at.join_values-requires-clause-other c).After-index-fields-place in
    theirs_value _ at.1.0 c.loop-left.invariant c.take_last-mine.ensures.here c.take_last-theirs.ensures.here at.1.1 c.requires.other

pub returns-in-None : goal.returns-in-None
returns-in-None c =
    let at = here (goal.at.returns-in-None c).After-index-fields-place in
    taken_clash _ at.1.0 c.loop-left.invariant c.take_last-mine.ensures.here c.take_last-theirs.ensures.here at.1.1 c.in_ok-join_values.field-0 c.in_ok-join_values.ensures.joins c.in-None.is

pub loop-left-preserved : goal.loop-left-preserved
loop-left-preserved c =
    let at = here (goal.at.loop-left-preserved c).After-index-fields-place in
    let mine = c.take_last-mine in
    let theirs = c.take_last-theirs in
    rw (← at.0) (taken_further _ at.1.0 c.loop-left.invariant mine.ensures.here theirs.ensures.here at.1.1 c.in_ok-join_values.field-0 c.in_ok-join_values.ensures.joins c.in-Some.is c.in_ok-add-in-Some.ensures
    mine.ensures.front mine.ensures.rises mine.ensures.below theirs.ensures.front theirs.ensures.rises theirs.ensures.below)

pub returns : goal.returns
returns c =
    let l = c.loop-left in
    taken_done c.args.fields.now c.args.one c.args.other l.left l.one l.other l.made c.in_ok-whole.whole c.turn.new.turned (let past = c.loop-left-test.false in omega (arith, past)) c.in_ok-whole.ensures c.in_ok-turn.ensures c.requires.one c.requires.other l.invariant

use Rattle.std.proofs.Common.{◌≡◌, false, ◌++◌, sym, arith}
use Rattle.std.proofs.lemmas.Result.{on_ok_weaker}
use Rattle.xdg_packed.specs.Spelling as spec
use Rattle.xdg_packed.proofs.Writing.{cards_begin, card_written, cards_end}
use Rattle.xdg_packed.proofs.spelling.push_cards.Goals as goal
use Rattle.xdg_facts.proofs.Members.{members_from, next_member}

pub loop-number-init : goal.loop-number-init
loop-number-init c = (cards_begin c.args.cards.now c.args.out.now c.least-number.result c.least-number.ensures.below c.least-number.ensures.least, λ h. absurd (omega (arith, h)))

pub loop-number-preserved-then-not-contains : goal.loop-number-preserved-then-not-contains
loop-number-preserved-then-not-contains c = (
  next_member (λ l. c.loop-number.out ++ spec.numbers l ≡ c.args.out.now ++ spec.numbers (members_from 128 c.args.cards.now 0)) 128 c.args.cards.now c.loop-number.number false
      (omega (arith, c.loop-number-test.true, c.greatest-number-end.ensures.below)) (sym c.if-not-contains.ensures.value) c.loop-number.invariant.0,
  λ h. c.contains.ensures.cards,
)

pub loop-number-preserved : goal.loop-number-preserved
loop-number-preserved c = (
  card_written 128 c.args.cards.now c.loop-number.out c.push_str.new.self c.push_number.new.out (c.args.out.now ++ spec.numbers (members_from 128 c.args.cards.now 0)) c.loop-number.number
      (omega (arith, c.loop-number-test.true, c.greatest-number-end.ensures.below)) (sym c.if-not-contains.ensures.value) c.in_ok-push_str.ensures.ok (rw (sym c.from.ensures) c.in_ok-push_number.ensures) c.loop-number.invariant.0,
  λ h. c.contains.ensures.cards,
)

pub returns : goal.returns
returns c =
    let over = c.loop-number-test.false in
    let order = c.least-number.ensures.least c.greatest-number-end.result c.greatest-number-end.ensures.member in
    on_ok_weaker c.push_str-2.result
    (λ e. cards_end c.args.cards.now c.args.out.now c.loop-number.out c.push_str-2.new.self c.greatest-number-end.result c.loop-number.number (omega (arith, over)) c.greatest-number-end.ensures.greatest
    (c.loop-number.invariant.1 (omega (arith, over, order))) e c.loop-number.invariant.0)
    c.push_str-2.ensures.ok

use Rattle.std.proofs.Common.{◌≡◌, false, refl, sym, map, arith}
use Rattle.xdg_ast.specs.Words.{number}
use Rattle.xdg_print.specs.Printed.{put}
use Rattle.xdg_print.proofs.Signs.{card_put, cards_end}
use Rattle.xdg_print.proofs.cards.put_numbers.Goals as goal
use Rattle.xdg_facts.proofs.Members.{members_from, next_member}

pub loop-number-init : goal.loop-number-init
loop-number-init c = (refl, λ h. absurd (omega (arith, h)))

pub loop-number-preserved-then-not-contains : goal.loop-number-preserved-then-not-contains
loop-number-preserved-then-not-contains c = (
  next_member (λ l. put (map number l) c.loop-number.printer ≡ put (map number (members_from 128 c.args.cards.now 0)) c.args.printer.now) 128 c.args.cards.now c.loop-number.number false
      c.loop-number-test.true (sym c.if-not-contains.ensures.value) c.loop-number.invariant.0,
  λ h. c.contains.ensures.cards,
)

pub loop-number-preserved : goal.loop-number-preserved
loop-number-preserved c = (
  card_put 128 c.args.cards.now c.loop-number.number c.from.result c.loop-number.printer c.number.new.self (put (map number (members_from 128 c.args.cards.now 0)) c.args.printer.now)
      c.loop-number-test.true (sym c.if-not-contains.ensures.value) c.from.ensures c.in_ok-number.ensures c.loop-number.invariant.0,
  λ h. c.contains.ensures.cards,
)

pub returns : goal.returns
returns c = cards_end c.args.cards.now c.loop-number.number c.loop-number.printer c.args.printer.now c.loop-number-test.false (c.loop-number.invariant.1 (omega (arith, c.loop-number-test.false))) c.loop-number.invariant.0

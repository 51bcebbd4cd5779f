use Rattle.std.proofs.Common.{◌+◌, sym, ◌∙◌}
use Rattle.xdg_build.proofs.Cardinalities.{passed, pushed, taken_at_end}
use Rattle.xdg_facts.proofs.Members.{members_from}
use Rattle.xdg_build.proofs.rows.cards_row.Goals as goal

pub loop-number-preserved-then-not-contains : goal.loop-number-preserved-then-not-contains
loop-number-preserved-then-not-contains c = (
  passed (c.greatest-end.result + 1) c.loop-number.number c.args.cards.now c.loop-number.numbers.items (members_from (c.greatest-end.result + 1) c.args.cards.now c.least-least.result)
      c.loop-number-test.true (sym c.if-not-contains.ensures.value) c.loop-number.invariant.0,
  λ _. c.contains.ensures.cards,
)

pub loop-number-preserved : goal.loop-number-preserved
loop-number-preserved c = (
  pushed (c.greatest-end.result + 1) c.loop-number.number c.args.cards.now c.loop-number.numbers.items c.push.new.self.items (members_from (c.greatest-end.result + 1) c.args.cards.now c.least-least.result)
      c.loop-number-test.true (sym c.if-not-contains.ensures.value) (cc (c.in_ok-push.ensures.items, c.from.ensures)) c.loop-number.invariant.0,
  λ _. c.contains.ensures.cards,
)

pub of-requires : goal.of-requires
of-requires c =
    (taken_at_end c.args.cards.now c.loop-number.numbers.items c.least-least.result c.greatest-end.result c.loop-number.number c.least-least.ensures.member
    c.least-least.ensures.least c.greatest-end.ensures.greatest c.loop-number-test.false c.loop-number.invariant.1 c.loop-number.invariant.0).1

pub returns : goal.returns
returns c =
    c.of.ensures
    ∙ (taken_at_end c.args.cards.now c.loop-number.numbers.items c.least-least.result c.greatest-end.result c.loop-number.number c.least-least.ensures.member
    c.least-least.ensures.least c.greatest-end.ensures.greatest c.loop-number-test.false c.loop-number.invariant.1 c.loop-number.invariant.0).0

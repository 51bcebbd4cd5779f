use Rattle.std.proofs.Common.{sym, ap, ◌∙◌}
use Rattle.xdg_terms.specs.Forms.{Card, counted_elem}
use Rattle.xdg_terms.specs.Built.{card_numbers, first_for}
use Rattle.xdg_terms.proofs.Saying.{below_skip, below_pushed, said_none, said_some}
use Rattle.xdg_terms.proofs.plain.valency.Goals as goal

pub loop-key-preserved-in-None : goal.loop-key-preserved-in-None
loop-key-preserved-in-None c =
    let find = first_for counted_elem c.args.elems.now in (
      below_skip c.loop-key.made c.loop-key.key c.loop-key.invariant.0,
      said_none (λ (written : Card). card_numbers written.kind) find c.args.constants.now c.loop-key.key c.index-constants-key.result c.loop-key.made _ c.loop-key-test.true c.index-constants-key.is (ap find (sym c.as_str.ensures) ∙ sym c.in-None.ensures) c.loop-key.invariant.1,
    )

pub loop-key-preserved : goal.loop-key-preserved
loop-key-preserved c =
    let find = first_for counted_elem c.args.elems.now in (
      below_pushed c.loop-key.made c.add.new.self c.loop-key.key c.cards.result c.in_ok-add-in-Some.ensures.ok c.loop-key.invariant.0,
      said_some (λ (written : Card). card_numbers written.kind) find c.args.constants.now c.loop-key.key c.index-constants-key.result c.loop-key.made _ c.in-Some.card.now c.cards.result c.add.new.self c.loop-key-test.true c.index-constants-key.is (ap find (sym c.as_str.ensures) ∙ sym c.in-Some.ensures) c.cards.ensures c.in_ok-add-in-Some.ensures.ok c.loop-key.invariant.1,
    )

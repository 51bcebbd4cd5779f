use Rattle.std.proofs.Common.{ℕ, ◌<◌, List, sym, ◌∙◌, arith}
use Rattle.xdg_domain.specs.Cards.{IsCards}
use Rattle.xdg_domain.specs.Shapes.{shape, count}
use Rattle.xdg_print.proofs.Put.{finish}
use Rattle.xdg_print.specs.ValueWords.{counted_words}
use Rattle.xdg_print.proofs.Layered.{said_each}
use Rattle.xdg_print.proofs.Keyed.{count_put}
use Rattle.xdg_print.proofs.Stood.{braces_done}
use Rattle.xdg_print.proofs.values.put_valency.Goals as goal

pub put_member-requires-clause-below : goal.put_member-requires-clause-below
put_member-requires-clause-below c =
    let said = said_each (λ (n : ℕ) (ns : List ℕ). (n < count (shape c.args.key.now)) × IsCards ns) c.args.entries.now c.loop-entry.entry-index c.entry-item.result c.requires.said c.loop-entry-test.true c.entry-item.is in
    omega (arith, said.0, c.from.ensures)

pub loop-entry-preserved : goal.loop-entry-preserved
loop-entry-preserved c =
    count_put (shape c.args.key.now) c.args.entries.now c.loop-entry.entry-index c.entry-item.result c.from.result c.loop-entry.printer c.put_member.new.printer c.put_cards.new.printer _
    c.loop-entry-test.true c.entry-item.is (sym c.is_zero.ensures ∙ c.if-is_zero.false) c.from.ensures c.in_ok-put_member.ensures c.in_ok-put_cards.ensures c.loop-entry.invariant

pub returns : goal.returns
returns c =
    finish c.mark-2.result c.mark-2.new.self
    (braces_done (counted_words (shape c.args.key.now)) c.args.entries.now c.loop-entry.entry-index c.args.printer.now c.mark.new.self c.loop-entry.printer (omega (arith, c.loop-entry-test.false)) c.in_ok-mark.ensures c.loop-entry.invariant)
    c.mark-2.ensures

use Rattle.std.proofs.Common.{arith, ◌∙◌, subst, sym}
use Rattle.xdg_print.specs.Again.{IsReadAgain}
use Rattle.xdg_print.proofs.ReadAgain.{read_again}
use Rattle.xdg_print.proofs.Put.{next_lines, all_of_lines}
use Rattle.xdg_print.proofs.WrittenStatements.{lines_in, all_printed}
use Rattle.xdg_print.proofs.statements.print.Goals as goal

pub loop-statement-preserved : goal.loop-statement-preserved
loop-statement-preserved c = next_lines c.loop-statement.printer lines_in c.as_slice-statement-items.result.now c.loop-statement.statement-index c.statement-item.result c.loop-statement-test.true c.statement-item.is c.loop-statement.invariant c.in_ok-statement.ensures

pub returns : goal.returns
returns c =
    let all = all_of_lines c.loop-statement.printer lines_in c.as_slice-statement-items.result.now c.loop-statement.statement-index (omega (arith, c.loop-statement-test.false)) c.loop-statement.invariant in
    let canonical = c.into_text.ensures ∙ all_printed c.args.grammar.now c.as_slice-statement-items.result.now c.new-printer.result c.loop-statement.printer c.as_slice-statement-items.ensures c.new-printer.ensures all in
    record { canonical = canonical; again = λ bytes reads. subst (λ text. IsReadAgain text c.args.grammar.now) (sym canonical) (read_again bytes c.args.grammar.now reads) }

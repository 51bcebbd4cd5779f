use Rattle.xdg_ast.specs.Trees.{name_word}
use Rattle.xdg_print.proofs.Put.{next_word}
use Rattle.xdg_print.proofs.printer.Printer.names.Goals as goal

pub loop-name-preserved : goal.loop-name-preserved
loop-name-preserved c = next_word c.loop-name.self name_word c.args.names.now c.loop-name.name-index c.name-item.result c.loop-name-test.true c.name-item.is c.loop-name.invariant c.in_ok-name.ensures

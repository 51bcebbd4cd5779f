use Rattle.xdg_ast.specs.Canon.{class_param_words}
use Rattle.xdg_print.proofs.Put.{next_of}
use Rattle.xdg_print.proofs.printer.Printer.class_params.Goals as goal

pub loop-param-preserved : goal.loop-param-preserved
loop-param-preserved c = next_of c.loop-param.self class_param_words c.args.params.now c.loop-param.param-index c.param-item.result c.loop-param-test.true c.param-item.is c.loop-param.invariant c.in_ok-class_param.ensures

use Rattle.std.proofs.Common.{◌≡◌, drop, flat_map}
use Rattle.xdg_ast.specs.Canon.{class_param_words}
use Rattle.xdg_print.specs.Printed.{put}
use Rattle.xdg_print.proofs.printer.Printer.class_params.Given as goal

abbrev pub invariant-loop-param : goal.invariant-loop-param
invariant-loop-param l = put (flat_map class_param_words (drop l.param-index l.params)) l.self ≡ put (flat_map class_param_words l.params) l.initial.self

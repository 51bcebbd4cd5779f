use Rattle.std.proofs.Common.{◌≡◌, drop}
use Rattle.xdg_ast.specs.Trees.{names_words}
use Rattle.xdg_print.specs.Printed.{put}
use Rattle.xdg_print.proofs.printer.Printer.names.Given as goal

abbrev pub invariant-loop-name : goal.invariant-loop-name
invariant-loop-name l = put (names_words (drop l.name-index l.names)) l.self ≡ put (names_words l.names) l.initial.self

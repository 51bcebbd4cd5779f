use Rattle.std.proofs.Common.{◌≡◌, drop, flat_map}
use Rattle.xdg_print.specs.Printed.{put}
use Rattle.xdg_print.proofs.WrittenTerms.{said_words}
use Rattle.xdg_print.proofs.printer.Printer.terms.Given as goal

abbrev pub invariant-loop-pair : goal.invariant-loop-pair
invariant-loop-pair l = put (flat_map (said_words l.params) (drop l.pair-index l.pairs)) l.self ≡ put (flat_map (said_words l.params) l.pairs) l.initial.self

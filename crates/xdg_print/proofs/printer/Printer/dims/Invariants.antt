use Rattle.std.proofs.Common.{◌≡◌, drop}
use Rattle.xdg_print.specs.Printed.{put, name_pairs_words}
use Rattle.xdg_print.proofs.printer.Printer.dims.Given as goal

abbrev pub invariant-loop-pair : goal.invariant-loop-pair
invariant-loop-pair l = put (name_pairs_words (drop l.pair-index l.pairs)) l.self ≡ put (name_pairs_words l.pairs) l.initial.self
